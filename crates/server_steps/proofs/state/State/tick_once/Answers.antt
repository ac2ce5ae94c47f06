use Rattle.std.proofs.Common.{refl}
use Rattle.server_steps.proofs.Going.{goes_ticking, halts_at_once}
use Rattle.server_steps.proofs.Holding.{holds_more, holds_same}
use Rattle.server_steps.specs.Going.{AreAny, AreHeld}
use Rattle.server_steps.proofs.state.State.tick_once.Goals as goal

pub returns-in-Ok : goal.returns-in-Ok
returns-in-Ok g c =
    let h = c.in-Ok.ensures.ticked in
    goes_ticking {R = g.row.R.Denot} {A = g.row.A.Denot} {D = g.row.D.Denot} g.A.Application.has_applied g.A.Application.meaning g.R.Records.failed g.D.PartialEq.eq AreHeld AreAny _ _ _ _ c.args.tick h.0 h.1 c.tick.ensures.place refl refl (holds_more _ _ _ h.2) (λ ds b. tt)

pub returns-in-Err : goal.returns-in-Err
returns-in-Err g c =
    let h = c.in-Err.ensures.halted in
    halts_at_once {R = g.row.R.Denot} {A = g.row.A.Denot} {D = g.row.D.Denot} g.A.Application.has_applied g.A.Application.meaning g.R.Records.failed g.D.PartialEq.eq AreHeld AreAny g.R.Records.stands g.R.Records.is_kept g.R.Records.base g.R.FlushRecords.leaves _ _ _ _ h.0 (holds_same _ _ h.1) (λ ds b. tt)
