-- Typed values as they are kept.
use Rattle.std.specs.Prelude.{List, [], ◌∷◌}
use Rattle.values.specs.declared.atom.Atom.{Atom}
use Rattle.evaluation.specs.declared.atoms.Kept.{Kept}
use Rattle.evaluation.specs.declared.atoms.Kept.TheVariants.{Single, Many}

-- values, in order
pub record AtomList : Type 0 where
  pub items : List Atom

abbrev pub atoms_of : Kept → AtomList
atoms_of (Single a) = record { items = a ∷ [] }
atoms_of (Many v) = record { items = v.items }
