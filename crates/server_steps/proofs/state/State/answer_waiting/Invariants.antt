use Rattle.std.proofs.Common.{[]}
use Rattle.server_steps.specs.Going.{AreAny, AreHeld, GoesOn, shown}
use Rattle.server_steps.proofs.state.State.answer_waiting.Given as goal

abbrev pub invariant-loop-request : goal.invariant-loop-request
invariant-loop-request g l = GoesOn g.A.Application.has_applied g.A.Application.meaning g.R.Records.failed g.D.PartialEq.eq AreHeld AreAny [] [] [] (shown l.fn.self) (shown l.self) (shown l.fn.self).held (shown l.self).held
