use Rattle.std.proofs.Common.{refl, subst}
use Rattle.paxos.specs.Lists.{Has}
use Rattle.server_steps.specs.Held.{held_in}
use Rattle.server_steps.proofs.Going.{on_dropping}
use Rattle.server_steps.specs.Going.{AreAny, AreHeld}
use Rattle.server_steps.proofs.state.State.place_next.Goals as goal

pub returns-in_default : goal.returns-in_default
returns-in_default g c = on_dropping {R = g.row.R.Denot} {A = g.row.A.Denot} {D = g.row.D.Denot} g.A.Application.has_applied g.A.Application.meaning g.R.Records.failed g.D.PartialEq.eq AreHeld AreAny _ _ _ refl refl refl (λ e has. subst (λ rs. Has (held_in rs.entries) e) c.take_unplaced.ensures has)
