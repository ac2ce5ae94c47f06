use Rattle.std.proofs.Common.{take}
use Rattle.world.specs.Held.{IsHeld, shown}
use Rattle.world.specs.Runs.{LeadsSmoothly, Ran, straight_run}
use Rattle.world.proofs.state.State.straight.Given as goal

-- the events before have happened
abbrev pub invariant-loop-before : goal.invariant-loop-before
invariant-loop-before g l = IsHeld {R = g.row.R.Denot} {A = g.row.A.Denot} l.self
    × LeadsSmoothly {R = g.row.R.Denot} {A = g.row.A.Denot} g.R.Records.stands g.R.Records.is_kept g.A.Application.has_applied (g.A.Application.meaning l.fn.self.names) (shown l.fn.self) (shown l.self) (take l.before (straight_run l.fn.self.members l.member l.request))
    × Ran {R = g.row.R.Denot} {A = g.row.A.Denot} g.R.Records.stands g.R.Records.is_kept g.R.Records.failed g.R.Records.fates g.A.Application.has_applied (g.A.Application.meaning l.fn.self.names) (take l.before (straight_run l.fn.self.members l.member l.request)) (shown l.fn.self) (shown l.self)
