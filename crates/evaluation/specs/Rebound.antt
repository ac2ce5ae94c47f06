-- Variables of which one is bound anew.
use Rattle.std.specs.Prelude.{List, [], ◌∷◌}
use Rattle.values.specs.declared.atom.Item.{Item}
use Rattle.query_meaning.specs.Environment.{Bound}

-- the one that was bound last has these items; the others stay as they are
abbrev pub rebound : List Item → List Bound → List Bound
rebound items [] = []
rebound items (b ∷ bs) = record b { items = items } ∷ bs
