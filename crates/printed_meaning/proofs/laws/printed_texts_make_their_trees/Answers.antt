use Rattle.values.specs.declared.atom.Item.TheVariants as item
use Rattle.printed_trees.specs.Constructors.{item_expression}
use Rattle.printed_trees.proofs.Whole.{item_is_parsed}
use Rattle.printed_meaning.proofs.Whole.{tree_is_made}
use Rattle.printed_meaning.proofs.laws.printed_texts_make_their_trees.Goals as goal

pub returns : goal.returns
returns c = λ level ts i x lent found h room forest few enough.
    let made = tree_is_made ts i x lent found h room forest few enough in
    (item_expression ts (item.Node i), made.0, item_is_parsed level ts (item.Node i) (x, found, h), made.1, made.2)
