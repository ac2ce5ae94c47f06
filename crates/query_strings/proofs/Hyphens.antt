-- The last byte of a text.
use Rattle.std.proofs.Common.{◌≡◌, ℕ, List, [], ◌∷◌, ◌++◌, refl}
use Rattle.std.specs.Prelude.{◌==◌}
use Rattle.data_model.specs.Tidy.{ends_in_hyphen}

pub last_of : (xs : List ℕ) (b : ℕ) → ends_in_hyphen (xs ++ b ∷ []) ≡ (b == 45)
last_of [] b = refl
last_of (x ∷ []) b = refl
last_of (x ∷ y ∷ xs) b = last_of (y ∷ xs) b

pub ends_so : (s xs : List ℕ) (b : ℕ) → s ≡ xs ++ b ∷ [] → (b == 45) ≡ ends_in_hyphen s
ends_so s xs b is = rw (is, last_of xs b) refl
