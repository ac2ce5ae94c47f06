-- The values of arguments as they are held.
use Rattle.std.specs.Prelude.{List, [], ◌∷◌}
use Rattle.values.specs.declared.atom.Item.{Item}
use Rattle.query_calls.specs.declared.argument_values.Held.{Held}
use Rattle.query_calls.specs.declared.argument_values.Held.TheVariants.{Single, Pair, Many}

abbrev pub values_of : Held → List (List Item)
values_of (Single x) = x ∷ []
values_of (Pair xs) = xs
values_of (Many v) = v.items
