-- Characters that a string literal has as they are.
use Rattle.std.proofs.Common.{◌≡◌, ◌≢◌, ℕ, ◌≤◌, Bool, true, false, cond, ltb, List, [], ◌∷◌, ◌++◌, refl, ap, sym, ◌∙◌, arith, ⊎_elim, append-nil}
use Rattle.std.proofs.Math.Utf8.{encode, encodes}
use Rattle.std.proofs.lemmas.Bool.{cases_lt}
use Rattle.std.proofs.lemmas.Bool.Decides.{nat_tests}
use Rattle.std.proofs.lemmas.Str.{encode_ascii, encodes-append}
use Rattle.std.proofs.lemmas.Grind.{flat_map-append}
use Rattle.std.specs.List.{flat_map}
use Rattle.values.specs.Printing.{escaped}
use Rattle.values.specs.Limited.{LimitedTerm, added}
use Rattle.values.proofs.Limits.{added-twice}

same : (b : ℕ) → b ≢ 34 → b ≢ 38 → b ≢ 9 → b ≢ 10 → b ≢ 13 → escaped b ≡ b ∷ []
same b q a t l r = grind (arith, nat_tests)

high : (b : ℕ) → 128 ≤ b → escaped b ≡ b ∷ []
high b h = grind (arith, nat_tests)

-- bytes above ASCII
AreHigh : List ℕ → Type 0
AreHigh [] = Unit {0}
AreHigh (b ∷ bs) = (128 ≤ b) × AreHigh bs

are-same : (bs : List ℕ) → AreHigh bs → flat_map escaped bs ≡ bs
unfolding AreHigh
are-same [] h = refl
are-same (b ∷ bs) h = rw (high b h.0, are-same bs h.1) refl

either : (t : Bool) (xs ys : List ℕ) → (t ≡ true → AreHigh xs) → (t ≡ false → AreHigh ys) → AreHigh (cond t xs ys)
either true xs ys f g = f refl
either false xs ys f g = g refl

-- a character of several bytes
are-high : (c : ℕ) → 128 ≤ c → AreHigh (encode c)
unfolding AreHigh encode
are-high c h =
    either (ltb c 128) _ _ (λ e. absurd (grind (arith, nat_tests)))
    (λ e. either (ltb c 2048) _ _ (λ e. (omega arith, (omega arith, tt)))
    (λ e. either (ltb c 65536) _ _ (λ e. (omega arith, (omega arith, (omega arith, tt)))) (λ e. (omega arith, (omega arith, (omega arith, (omega arith, tt)))))))

pub plain : (c : ℕ) → c ≢ 34 → c ≢ 38 → c ≢ 9 → c ≢ 10 → c ≢ 13 → flat_map escaped (encode c) ≡ encode c
plain c q a t l r = ⊎_elim (λ h. rw (encode_ascii c h, same c q a t l r) refl) (λ h. are-same (encode c) (are-high c h)) (cases_lt c 128)

-- one more character
pub one-more : (l before now : LimitedTerm) (cs : List ℕ) (c : ℕ) → before ≡ added l (flat_map escaped (encodes cs)) → now ≡ added before (flat_map escaped (encode c)) → now ≡ added l (flat_map escaped (encodes (cs ++ c ∷ [])))
one-more l before now cs c h e =
    let last : encodes (cs ++ c ∷ []) ≡ encodes cs ++ encode c = encodes-append cs (c ∷ []) ∙ ap (λ l. encodes cs ++ l) (append-nil (encode c)) in
    e ∙ ap (λ k. added k (flat_map escaped (encode c))) h ∙ added-twice l (flat_map escaped (encodes cs)) (flat_map escaped (encode c)) ∙ ap (added l) (sym (flat_map-append escaped (encodes cs) (encode c)) ∙ ap (flat_map escaped) (sym last))
