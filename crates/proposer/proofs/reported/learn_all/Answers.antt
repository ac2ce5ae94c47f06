use Rattle.std.proofs.Common.{◌+◌, drop, get_or}
use Rattle.proposer.proofs.Merging.{learn_more}
use Rattle.proposer.proofs.Positions.{from_place}
use Rattle.proposer.proofs.reported.learn_all.Goals as goal

pub loop-position-preserved : goal.loop-position-preserved
loop-position-preserved c =
    learn_more c.args.learnt.now (drop (c.loop-position.position-index + 1) c.args.learnt.now) (drop c.loop-position.position-index c.args.learnt.now) (get_or c.args.learnt.now c.loop-position.position-index 0) c.args.map.now c.loop-position.map c.fill.new.self
    (from_place c.loop-position.position-index c.args.learnt.now c.loop-position-test.true) c.loop-position.invariant (record { put = c.fill.ensures.put; others = c.fill.ensures.others })
