-- Items whose nodes stand in given trees.
use Rattle.std.specs.Prelude.{List, IsSome}
use Rattle.std.specs.List.{All}
use Rattle.data_model.specs.Trees.{Trees, find}
use Rattle.values.specs.declared.atom.Item.{Item}
use Rattle.values.specs.declared.atom.Item.TheVariants as item

-- the item is an atomic value, or a node that stands there
abbrev pub IsThere : Trees → Item → Type 0
IsThere ts (item.Node i) = IsSome (find i ts)
IsThere ts (item.Atomic a) = Unit {0}

-- each of the items is
abbrev pub AreThere : Trees → List Item → Type 0
AreThere ts items = All (IsThere ts) items
