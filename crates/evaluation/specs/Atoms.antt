-- One typed value more.
use Rattle.std.specs.Prelude.{List, [], ◌∷◌, ◌++◌}
use Rattle.values.specs.declared.atom.Atom.{Atom}
use Rattle.values.specs.declared.atom.Item.{Item}
use Rattle.query_meaning.specs.Running.{M, pure, ◌>>=◌, atom}

abbrev pub and_atom : List Atom → Item → M (List Atom)
and_atom given x = atom x >>= (λ a. pure (given ++ a ∷ []))
