-- What texts begin with.
use Rattle.std.proofs.Common.{◌≡◌, ℕ, zero, suc, ◌≤◌, List, [], ◌∷◌, length, drop, refl, arith}
use Rattle.std.specs.Prelude.{min}
use Rattle.sorted_tuples.specs.Abbreviations.{shared}

with_nothing : (xs : List ℕ) → shared xs [] ≡ 0
with_nothing [] = refl
with_nothing (x ∷ xs) = refl

-- past the shorter of two texts they share nothing
pub past_shorter : (xs ys : List ℕ) (i : ℕ) → min (length xs) (length ys) ≤ i → shared (drop i xs) (drop i ys) ≡ 0
past_shorter [] ys zero h = refl
past_shorter [] ys (suc i) h = refl
past_shorter (x ∷ xs) [] zero h = refl
past_shorter (x ∷ xs) [] (suc i) h = with_nothing (drop i xs)
past_shorter (x ∷ xs) (y ∷ ys) zero h = absurd (omega (arith, h))
past_shorter (x ∷ xs) (y ∷ ys) (suc i) h = past_shorter xs ys i (omega (arith, h))
