use Rattle.std.proofs.Common.{◌∙◌, ◌+◌, drop, get_or}
use Rattle.proposer.proofs.Merging.{place_more}
use Rattle.proposer.proofs.Positions.{from_place, rising_rest}
use Rattle.proposer.proofs.reported.reserve_positions.Goals as goal

pub loop-position-preserved : goal.loop-position-preserved
loop-position-preserved c = (
  rising_rest 1 c.loop-position.position-index c.args.learnt.now c.loop-position-test.true c.loop-position.invariant.0,
  c.in_ok-reserve.ensures.same ∙ c.loop-position.invariant.1,
  place_more c.args.learnt.now (drop (c.loop-position.position-index + 1) c.args.learnt.now) (drop c.loop-position.position-index c.args.learnt.now) (get_or c.args.learnt.now c.loop-position.position-index 0) c.loop-position.map c.reserve.new.self
      (from_place c.loop-position.position-index c.args.learnt.now c.loop-position-test.true) c.loop-position.invariant.2 c.in_ok-reserve.ensures.room c.in_ok-reserve.ensures.others,
)
