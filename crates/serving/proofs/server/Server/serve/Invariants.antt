use Rattle.std.proofs.Common.{◌≤◌, ◌+◌, ℕ, Ok}
use Rattle.server_steps.specs.Going.{Passed, has_brought_beside, was_given_or_held}
use Rattle.serving.specs.Serves.{GoesByRounds, WritesFirst}
use Rattle.server_steps.specs.Moves.{AreTurns}
use Rattle.wires.specs.Wires.{HasSaid}
use Rattle.serving.proofs.server.Server.serve.Given as goal

abbrev pub invariant-loop-try : goal.invariant-loop-try
invariant-loop-try g l =
    (l.taken ≤ l.fn.turns)
    × Passed g.A.Application.has_applied g.A.Application.meaning g.R.Records.failed g.D.PartialEq.eq (was_given_or_held g.W.Wire.was_given) (has_brought_beside g.W.Wire.has_brought) g.R.Records.stands g.R.Records.is_kept g.R.Records.base g.R.FlushRecords.leaves AreTurns (Ok l.taken) l.fn.self.server l.self.server (l.fn.self.server.held, l.fn.wire) (l.self.server.held, l.wire)
    × WritesFirst g.A.Application.has_applied g.A.Application.meaning g.R.Records.failed g.D.PartialEq.eq g.W.Wire.was_given g.W.Wire.has_brought g.R.Records.is_kept g.R.FlushRecords.leaves l.fn.self.server l.fn.wire l.wire
    × ((failures : ℕ) × HasSaid g.W.Wire.has_brought g.W.Wire.has_waited l.fn.wire l.wire l.taken failures × (l._try ≤ l.taken + failures))
    × GoesByRounds g.A.Application.has_applied g.A.Application.meaning g.R.Records.failed g.D.PartialEq.eq g.W.Wire.was_given g.W.Wire.has_brought g.R.Records.is_kept g.R.FlushRecords.leaves l.fn.self l.fn.wire l.self l.wire
