-- Brackets that are open after a token.
use Rattle.std.proofs.Common.{◌≡◌, ℕ, zero, suc, ◌<◌, ◌+◌, Bool, true, false, ◌||◌, nat_le, List, [], ◌∷◌, drop, length, refl, ap, sym, ◌∙◌, arith}
use Rattle.query_tokens.specs.Cursor.{kind_at}
use Rattle.query_tokens.specs.declared.kind.Kind.{Kind}
use Rattle.query_tokens.specs.declared.token.Token.{Token}
use Rattle.static_checks.specs.Brackets.{nests_too_deep, open_after}

-- the token at an index, and those after it
from : (ts : List Token) (i n : ℕ) → i < length ts
    → nests_too_deep n (drop i ts) ≡ nat_le 201 (open_after n (kind_at i ts)) || nests_too_deep (open_after n (kind_at i ts)) (drop (suc i) ts)
from [] i n h = absurd (omega (arith, h))
from (t ∷ ts) zero n h = refl
from (t ∷ ts) (suc i) n h = from ts i n (omega (arith, h))

module _ (ts : List Token) (i n r : ℕ) (k : Kind) (whole : Bool) (inside : i < length ts) (left : nests_too_deep n (drop i ts) ≡ whole)
    (seen : k ≡ kind_at i ts) (opened : r ≡ open_after n k) where
  now : r ≡ open_after n (kind_at i ts)
  now = opened ∙ ap (open_after n) seen

  here : whole ≡ nat_le 201 r || nests_too_deep r (drop (suc i) ts)
  here = sym left ∙ from ts i n inside ∙ ap (λ m. nat_le 201 m || nests_too_deep m (drop (suc i) ts)) (sym now)

  pub too_many : nat_le 201 r ≡ true → true ≡ whole
  too_many h = sym (here ∙ ap (λ b. b || nests_too_deep r (drop (suc i) ts)) h)

  pub not_yet : nat_le 201 r ≡ false → nests_too_deep r (drop (i + 1) ts) ≡ whole
  not_yet h = let next : i + 1 ≡ suc i = omega arith in ap (λ j. nests_too_deep r (drop j ts)) next ∙ sym (here ∙ ap (λ b. b || nests_too_deep r (drop (suc i) ts)) h)
