use Rattle.std.proofs.Common.{List, IfErr, subst, sym}
use Rattle.values.specs.declared.atom.Item.{Item}
use Rattle.query_meaning.specs.Running.{atoms}
use Rattle.evaluation.specs.Gives.{Fails}
use Rattle.query_calls.proofs.Alone.{alone_is}
use Rattle.query_calls.proofs.strings.and_argument.Goals as goal

pub returns-in-len1-clause-code : goal.returns-in-len1-clause-code
returns-in-len1-clause-code c =
    let is = alone_is c.args.argument.now c.as_slice.result.now c.item-item.result c.as_slice.ensures.items c.in-len1.len_at_least c.in-len1.len_below c.item-item.is in
    let P : List Item → Type 0 = λ xs. IfErr c.and_alone.result (λ fault. Fails (atoms xs c.args.run.now) fault) in
    subst P (sym is) c.and_alone.ensures.code
