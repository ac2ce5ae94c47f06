-- What a change that can be taken back is to its callers.
use Rattle.std.specs.Prelude.{refl}
use Rattle.std.specs.Coded.{Coded, code_by, coded×}
use Rattle.trees.specs.Forest.{ForestTerm, forest_code}

-- the forest as it was, and as it was changed
pub record UndoTerm : Type 0 where
  pub before : ForestTerm
  pub after : ForestTerm

abbrev pub undo_code : Coded UndoTerm
undo_code = code_by (ForestTerm × ForestTerm) (coded× forest_code forest_code) (λ u. (u.before, u.after)) (λ p. record { before = p.0; after = p.1 }) (λ _. refl)
