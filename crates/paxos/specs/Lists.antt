-- Lists whose elements are numbered from 1, and what is in a list.
use Rattle.std.specs.Prelude.{◌≡◌, ℕ, zero, suc, List, [], ◌∷◌, Option, None, slice_get, slice_set, ◌⊎◌}

-- the element of that number
abbrev pub at : {A : Type 0} → List A → ℕ → Option A
at xs zero = None
at xs (suc i) = slice_get xs i

-- the list with the element of that number replaced
abbrev pub put : {A : Type 0} → List A → ℕ → A → List A
put xs zero x = xs
put xs (suc i) x = slice_set xs i x

-- x is in the list
abbrev pub Has : {A : Type 0} → List A → A → Type 0
Has [] x = ⊥
Has (y ∷ ys) x = (y ≡ x) ⊎ Has ys x
