-- The items of a value, whosever they are.
use Rattle.std.specs.Prelude.{List}
use Rattle.values.specs.declared.atom.Item.{Item}
use Rattle.evaluation.specs.declared.value.Given.{Given}
use Rattle.evaluation.specs.declared.value.Given.TheVariants.{Made, Lent}

abbrev pub given_items : Given → List Item
given_items (Made s) = s
given_items (Lent s) = s.now
