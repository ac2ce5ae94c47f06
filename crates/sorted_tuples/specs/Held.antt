-- The keys of a tuple as they are held.
use Rattle.std.specs.Prelude.{List, [], ◌∷◌, Option}
use Rattle.values.specs.declared.atom.Atom.{Atom}
use Rattle.sorted_tuples.specs.declared.tuples.Held.{Held}
use Rattle.sorted_tuples.specs.declared.tuples.Held.TheVariants.{Single, Many}

abbrev pub keys_of : Held → List (Option Atom)
keys_of (Single key) = key ∷ []
keys_of (Many v) = v.items
