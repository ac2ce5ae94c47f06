use Rattle.std.proofs.Common.{arith}
use Rattle.server_steps.proofs.Going.{goes_none, passed_both, passed_none, passed_stops}
use Rattle.server_steps.proofs.Said.{said_both, said_none}
use Rattle.server_steps.specs.Going.{has_brought_beside, was_given_or_held}
use Rattle.server_steps.specs.Moves.{AreTurns}
use Rattle.server_steps.proofs.state.State.take_waiting.Goals as goal

pub loop-datagram-init : goal.loop-datagram-init
loop-datagram-init g c = (omega arith, passed_none {R = g.row.R.Denot} {A = g.row.A.Denot} {D = g.row.D.Denot} g.A.Application.has_applied g.A.Application.meaning g.R.Records.failed g.D.PartialEq.eq (was_given_or_held g.W.Wire.was_given) (has_brought_beside g.W.Wire.has_brought) g.R.Records.stands g.R.Records.is_kept g.R.Records.base g.R.FlushRecords.leaves _ _ _ (goes_none {R = g.row.R.Denot} {A = g.row.A.Denot} {D = g.row.D.Denot} g.A.Application.has_applied g.A.Application.meaning g.R.Records.failed g.D.PartialEq.eq (was_given_or_held g.W.Wire.was_given) (has_brought_beside g.W.Wire.has_brought) _ _), (λ ds h. h), said_none {D = g.row.D.Denot} g.W.Wire.has_brought g.W.Wire.has_waited _)

pub loop-datagram-preserved : goal.loop-datagram-preserved
loop-datagram-preserved g c = (
  omega (arith, c.loop-datagram.invariant.0, c.in_ok-more.ensures.most),
  passed_both {R = g.row.R.Denot} {A = g.row.A.Denot} {D = g.row.D.Denot} g.A.Application.has_applied g.A.Application.meaning g.R.Records.failed g.D.PartialEq.eq (was_given_or_held g.W.Wire.was_given) (has_brought_beside g.W.Wire.has_brought) g.R.Records.stands g.R.Records.is_kept g.R.Records.base g.R.FlushRecords.leaves c.loop-datagram.taken _ _ _ _ _ _ _ c.loop-datagram.invariant.1 c.in_ok-more.ensures.took,
  (λ ds h. c.take_next.ensures.unsent ds (c.loop-datagram.invariant.2 ds h)),
  said_both {D = g.row.D.Denot} g.W.Wire.has_brought g.W.Wire.has_waited _ _ _ c.loop-datagram.taken _ 0 0 c.loop-datagram.invariant.3 c.in_ok-more.ensures.said,
)

pub returns-in_err-more-clause-took : goal.returns-in_err-more-clause-took
returns-in_err-more-clause-took g c =
    passed_stops {R = g.row.R.Denot} {A = g.row.A.Denot} {D = g.row.D.Denot} g.A.Application.has_applied g.A.Application.meaning g.R.Records.failed g.D.PartialEq.eq (was_given_or_held g.W.Wire.was_given) (has_brought_beside g.W.Wire.has_brought) g.R.Records.stands g.R.Records.is_kept g.R.Records.base g.R.FlushRecords.leaves AreTurns c.from_residual.result _ _ _ _ _ _ _ _ c.from_residual.ensures.0 c.loop-datagram.invariant.1 c.in_err-more.ensures.took.1

pub returns-in_err-more-clause-unsent : goal.returns-in_err-more-clause-unsent
returns-in_err-more-clause-unsent g c = λ ds h. c.take_next.ensures.unsent ds (c.loop-datagram.invariant.2 ds h)

pub returns-then-more-eq0-clause-took : goal.returns-then-more-eq0-clause-took
returns-then-more-eq0-clause-took g c = passed_both {R = g.row.R.Denot} {A = g.row.A.Denot} {D = g.row.D.Denot} g.A.Application.has_applied g.A.Application.meaning g.R.Records.failed g.D.PartialEq.eq (was_given_or_held g.W.Wire.was_given) (has_brought_beside g.W.Wire.has_brought) g.R.Records.stands g.R.Records.is_kept g.R.Records.base g.R.FlushRecords.leaves c.loop-datagram.taken _ _ _ _ _ _ _ c.loop-datagram.invariant.1 c.in_ok-more.ensures.took

pub returns-then-more-eq0-clause-said : goal.returns-then-more-eq0-clause-said
returns-then-more-eq0-clause-said g c = said_both {D = g.row.D.Denot} g.W.Wire.has_brought g.W.Wire.has_waited _ _ _ c.loop-datagram.taken _ 0 0 c.loop-datagram.invariant.3 c.in_ok-more.ensures.said
