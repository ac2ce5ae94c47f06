use Rattle.server_steps.proofs.Going.{on_none}
use Rattle.server_steps.specs.Going.{AreAny, AreHeld}
use Rattle.server_steps.proofs.state.State.answer_oldest.Goals as goal

pub returns-in_default : goal.returns-in_default
returns-in_default g c = on_none {R = g.row.R.Denot} {A = g.row.A.Denot} {D = g.row.D.Denot} g.A.Application.has_applied g.A.Application.meaning g.R.Records.failed g.D.PartialEq.eq AreHeld AreAny _ _
