use Rattle.std.proofs.lemmas.Result.{err_from_is_err_and}
use Rattle.item_expressions.specs.Looped.{leaving}
use Rattle.item_expressions.proofs.Returned.{item_dropped, item_passes, item_stops, test_in_turn}
use Rattle.item_expressions.proofs.each.add_of.Goals as goal

pub returns-in_err-holds-clause-gives : goal.returns-in_err-holds-clause-gives
returns-in_err-holds-clause-gives c = λ condition variable others env is means around.
    let f = c.args.function.now in
    let read = c.in_ok-read.read in
    let kept = test_in_turn condition f.expression variable others env c.args.given.now c.args.item.now read.item.now c.args.test.now c.args.run.now c.turn.new.self _ c.in_ok-turn.ensures c.in_ok-read.ensures.0 is in
    let p = err_from_is_err_and c.from_residual-in_err-holds.result c.from_residual-in_err-holds.ensures.1 in
    rw (p.1, p.2) (item_stops condition f.expression variable others env c.args.given.now c.args.item.now read.item.now c.args.test.now c.args.run.now c.turn.new.self _ c.in_ok-turn.ensures c.in_ok-read.ensures.0 c.holds.new.run _ (c.in_err-holds.ensures.holds condition variable others env kept around))

pub returns-then-branch-clause-gives : goal.returns-then-branch-clause-gives
returns-then-branch-clause-gives c = λ condition variable others env is means around.
    let f = c.args.function.now in
    let read = c.in_ok-read.read in
    let kept = test_in_turn condition f.expression variable others env c.args.given.now c.args.item.now read.item.now c.args.test.now c.args.run.now c.turn.new.self _ c.in_ok-turn.ensures c.in_ok-read.ensures.0 is in
    item_passes condition f.expression variable others env c.args.given.now c.args.item.now read.item.now c.args.test.now c.args.run.now c.turn.new.self _ c.in_ok-turn.ensures c.in_ok-read.ensures.0 c.holds.new.run c.add_value.new.run (leaving c.add_value.result c.add_value.new.given) (rw c.if-branch.true at (c.in_ok-holds.ensures.holds condition variable others env kept around)) (c.add_value.ensures.gives variable env means)

pub returns-clause-gives : goal.returns-clause-gives
returns-clause-gives c = λ condition variable others env is means around.
    let f = c.args.function.now in
    let read = c.in_ok-read.read in
    let kept = test_in_turn condition f.expression variable others env c.args.given.now c.args.item.now read.item.now c.args.test.now c.args.run.now c.turn.new.self _ c.in_ok-turn.ensures c.in_ok-read.ensures.0 is in
    item_dropped condition f.expression variable others env c.args.given.now c.args.item.now read.item.now c.args.test.now c.args.run.now c.turn.new.self _ c.in_ok-turn.ensures c.in_ok-read.ensures.0 c.holds.new.run c.requires.stand (rw c.if-branch.false at (c.in_ok-holds.ensures.holds condition variable others env kept around))
