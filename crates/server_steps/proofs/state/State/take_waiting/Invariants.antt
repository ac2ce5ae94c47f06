use Rattle.std.proofs.Common.{◌≤◌, Ok}
use Rattle.server_steps.specs.Going.{IsGivenNothing, Passed, has_brought_beside, shown, was_given_or_held}
use Rattle.server_steps.specs.Moves.{AreTurns}
use Rattle.wires.specs.Wires.{HasSaid}
use Rattle.server_steps.proofs.state.State.take_waiting.Given as goal

abbrev pub invariant-loop-datagram : goal.invariant-loop-datagram
invariant-loop-datagram g l =
    (l.taken ≤ l._datagram)
    × Passed g.A.Application.has_applied g.A.Application.meaning g.R.Records.failed g.D.PartialEq.eq (was_given_or_held g.W.Wire.was_given) (has_brought_beside g.W.Wire.has_brought) g.R.Records.stands g.R.Records.is_kept g.R.Records.base g.R.FlushRecords.leaves AreTurns (Ok l.taken) (shown l.fn.self) (shown l.self) ((shown l.fn.self).held, l.fn.wire) ((shown l.self).held, l.wire)
    × IsGivenNothing g.W.Wire.was_given l.fn.wire l.wire
    × HasSaid g.W.Wire.has_brought g.W.Wire.has_waited l.fn.wire l.wire l.taken 0
