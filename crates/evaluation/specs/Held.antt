-- The items of a sequence as they are held.
use Rattle.std.specs.Prelude.{List, [], ◌∷◌}
use Rattle.values.specs.declared.atom.Item.{Item}
use Rattle.evaluation.specs.declared.sequence.Held.{Held}
use Rattle.evaluation.specs.declared.sequence.Held.TheVariants.{Single, Many}

abbrev pub items_of : Held → List Item
items_of (Single x) = x ∷ []
items_of (Many v) = v.items
