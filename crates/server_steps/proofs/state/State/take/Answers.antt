use Rattle.std.proofs.Common.{[]}
use Rattle.server_steps.proofs.Going.{went_both}
use Rattle.server_steps.specs.Going.{AreAny, AreHeld}
use Rattle.server_steps.proofs.state.State.take.Goals as goal

pub returns : goal.returns
returns g c = went_both {R = g.row.R.Denot} {A = g.row.A.Denot} {D = g.row.D.Denot} g.A.Application.has_applied g.A.Application.meaning g.R.Records.failed g.D.PartialEq.eq AreHeld AreAny g.R.Records.stands g.R.Records.is_kept g.R.Records.base g.R.FlushRecords.leaves c.follow.result _ _ [] [] [] _ _ _ _ _ _ c.in_ok-take_first.ensures c.follow.ensures
