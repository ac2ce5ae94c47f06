-- The typed value of one item alone.
use Rattle.std.proofs.Common.{◌≡◌, [], ◌∷◌, Result, Ok, Err, refl}
use Rattle.fault_codes.specs.declared.code.Code.{Code}
use Rattle.values.specs.declared.atom.Atom.{Atom}
use Rattle.values.specs.declared.atom.Item.{Item}
use Rattle.query_meaning.specs.Running.{Run, and_then, atom as atom_at, atoms, pure}

pub item_atoms : (x : Item) (run : Run) → atoms (x ∷ []) run ≡ and_then (atom_at x run) (λ a. pure (a ∷ []))
item_atoms x run = over (atom_at x run)
  where
    over : (r : Result (Atom × Run) Code) → and_then (and_then r (λ a. pure (a ∷ []))) (λ xs. pure xs) ≡ and_then r (λ a. pure (a ∷ []))
    over (Ok p) = refl
    over (Err code) = refl
