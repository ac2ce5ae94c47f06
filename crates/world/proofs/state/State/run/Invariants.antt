use Rattle.std.proofs.Common.{map, take}
use Rattle.world.specs.Held.{IsHeld, shown}
use Rattle.events.specs.Events.{event_of}
use Rattle.world.specs.Runs.{LeadsTo, Ran}
use Rattle.world.proofs.state.State.run.Given as goal

-- the events before have happened
abbrev pub invariant-loop-before : goal.invariant-loop-before
invariant-loop-before g l = IsHeld {R = g.row.R.Denot} {A = g.row.A.Denot} l.self
    × LeadsTo {R = g.row.R.Denot} {A = g.row.A.Denot} g.R.Records.stands g.R.Records.is_kept g.A.Application.has_applied (g.A.Application.meaning l.fn.self.names) (shown l.fn.self) (shown l.self) (take l.before (map event_of l.events))
    × Ran {R = g.row.R.Denot} {A = g.row.A.Denot} g.R.Records.stands g.R.Records.is_kept g.R.Records.failed g.R.Records.fates g.A.Application.has_applied (g.A.Application.meaning l.fn.self.names) (take l.before (map event_of l.events)) (shown l.fn.self) (shown l.self)
