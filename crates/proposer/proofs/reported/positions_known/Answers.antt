use Rattle.std.proofs.Common.{◌∙◌}
use Rattle.position_map.specs.Slots.{filled}
use Rattle.proposer.proofs.Positions.{rising_rest, known_more}
use Rattle.proposer.proofs.reported.positions_known.Goals as goal

pub loop-position-preserved : goal.loop-position-preserved
loop-position-preserved c = (
  rising_rest 1 c.loop-position.position-index c.args.learnt.now c.loop-position-test.true c.loop-position.invariant.0,
  λ q. known_more c.loop-position.position-index q c.args.learnt.now (filled c.loop-position.map) (filled c.fill.new.self) c.loop-position-test.true (rw (← c.in_ok-reserve.ensures.same) (c.fill.ensures.put q)) ∙ c.loop-position.invariant.1 q,
)
