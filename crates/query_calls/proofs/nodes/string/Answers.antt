use Rattle.std.proofs.Common.{List, subst, sym}
use Rattle.values.specs.declared.atom.Item.{Item}
use Rattle.query_meaning.specs.Functions.{string_of}
use Rattle.evaluation.specs.Gives.{Gives}
use Rattle.query_calls.proofs.Alone.{alone_is}
use Rattle.query_calls.proofs.nodes.string.Goals as goal

pub returns-in-len1 : goal.returns-in-len1
returns-in-len1 c =
    let is = alone_is c.args.items.now c.as_slice.result.now c.item-item.result c.as_slice.ensures.items c.in-len1.len_at_least c.in-len1.len_below c.item-item.is in
    let P : List Item → Type 0 = λ xs. Gives (string_of xs) c.args.run.now c.string_of_item.result c.string_of_item.new.run in
    subst P (sym is) c.string_of_item.ensures
