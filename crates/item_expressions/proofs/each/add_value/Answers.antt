use Rattle.std.proofs.Common.{refl}
use Rattle.std.proofs.lemmas.Result.{err_from_is_err_and}
use Rattle.item_expressions.proofs.Returned.{item_fails, item_returned}
use Rattle.item_expressions.proofs.each.add_value.Goals as goal

pub returns-in_err-made-clause-gives : goal.returns-in_err-made-clause-gives
returns-in_err-made-clause-gives c = λ variable env means.
    let f = c.args.function.now in
    let p = err_from_is_err_and c.from_residual.result c.from_residual.ensures.1 in
    rw (p.1, p.2) (item_fails f.expression f variable c.args.item.now.item.now env c.args.given.now c.args.run.now c.value.new.run refl means _ c.in_err-made.ensures.value)

pub returns-clause-gives : goal.returns-clause-gives
returns-clause-gives c = λ variable env means.
    let f = c.args.function.now in
    item_returned f.expression f variable c.args.item.now.item.now env c.args.given.now c.args.run.now c.value.new.run refl means c.in_ok-made.made c.push.new.self c.push.result c.in_ok-made.ensures.value c.requires.stand c.push.ensures.added c.push.ensures.code
