-- A store of one or two empty documents is one that an update may leave.
use Rattle.std.proofs.Common.{ℕ, ◌≤◌, List, [], ◌∷◌, length, refl, arith}
use Rattle.trees.specs.Forest.{opening_trees}
use Rattle.update_meaning.specs.Results.{IsStored}

pub opening_stored : (names : List (List ℕ)) → length names ≤ 2 → IsStored (opening_trees 1 names)
opening_stored [] few = refl
opening_stored (x ∷ []) few = refl
opening_stored (x ∷ y ∷ []) few = refl
opening_stored (x ∷ y ∷ z ∷ zs) few = absurd (omega arith)
