-- Texts that begin with a fixed part.
use Rattle.std.proofs.Common.{◌≡◌, ◌≢◌, ℕ, List, ◌++◌, Bool, cond, length, drop, MatchOption, Option, Some, None, Bor, eqb, refl, sym, ap, ◌∙◌, ⊎_elim}
use Rattle.std.specs.List.{starts_with}
use Rattle.std.specs.Option.{option_copied}
use Rattle.std.specs.Str.Pattern.{FindsTextPrefix, StripsPrefix}
use Rattle.std.proofs.lemmas.Bool.{cases_Bool}
use Rattle.std.proofs.lemmas.Bool.Decides.{Decides-eqb}
use Rattle.std.proofs.lemmas.List.Prefix.{front_rest}
use Rattle.std.proofs.lemmas.Slice.Eq.{starts_is}
use Rattle.line_parts.specs.Parts.{text_after}

-- a text that begins so has its rest, and only such a text
text_after-at : (n s r : List ℕ) → s ≡ n ++ r → text_after n s ≡ Some r
unfolding text_after
text_after-at n s r e =
    ap (λ (b : Bool). cond b (Some (drop (length n) s)) None) ((starts_is Decides-eqb s n _ refl).1 r e) ∙ ap (λ (t : List ℕ). Some t) (front_rest s n r e)

-- any other text has none
text_after_none : (n s : List ℕ) → ((r : List ℕ) → s ≢ n ++ r) → text_after n s ≡ None
unfolding text_after
text_after_none n s h =
    ⊎_elim (λ e. absurd (h _ ((starts_is Decides-eqb s n _ refl).0 e)))
    (λ e. ap (λ (b : Bool). cond b (Some (drop (length n) s)) None) e) (cases_Bool (starts_with eqb s n))

-- what `strip_prefix` gives
pub text_after_is : (n s : List ℕ) (r : Option (Bor (List ℕ))) → MatchOption r (FindsTextPrefix n s None) (λ x. StripsPrefix (FindsTextPrefix n) s x.now) → option_copied r ≡ text_after n s
text_after_is n s None h = sym (text_after_none n s h)
text_after_is n s (Some x) h = sym (text_after-at n s x.now (h.1.1 ∙ ap (λ (t : List ℕ). n ++ t) (sym h.2)))
