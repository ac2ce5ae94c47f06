use Rattle.std.proofs.Common.{[]}
use Rattle.server_steps.proofs.Going.{halts_later, on_both, on_none, went_err}
use Rattle.server_steps.specs.Going.{AreAny, AreHeld}
use Rattle.server_steps.proofs.state.State.place_waiting.Goals as goal

pub loop-request-init : goal.loop-request-init
loop-request-init g c = on_none {R = g.row.R.Denot} {A = g.row.A.Denot} {D = g.row.D.Denot} g.A.Application.has_applied g.A.Application.meaning g.R.Records.failed g.D.PartialEq.eq AreHeld AreAny _ _

pub loop-request-preserved : goal.loop-request-preserved
loop-request-preserved g c = on_both {R = g.row.R.Denot} {A = g.row.A.Denot} {D = g.row.D.Denot} g.A.Application.has_applied g.A.Application.meaning g.R.Records.failed g.D.PartialEq.eq AreHeld AreAny [] [] [] [] [] _ _ _ _ _ _ c.loop-request.invariant c.in_ok-place_next.ensures

pub returns-in_err-place_next : goal.returns-in_err-place_next
returns-in_err-place_next g c =
    went_err {R = g.row.R.Denot} {A = g.row.A.Denot} {D = g.row.D.Denot} g.A.Application.has_applied g.A.Application.meaning g.R.Records.failed g.D.PartialEq.eq AreHeld AreAny g.R.Records.stands g.R.Records.is_kept g.R.Records.base g.R.FlushRecords.leaves c.from_residual.result _ _ _ _ _ _ _ c.from_residual.ensures.0
    (halts_later {R = g.row.R.Denot} {A = g.row.A.Denot} {D = g.row.D.Denot} g.A.Application.has_applied g.A.Application.meaning g.R.Records.failed g.D.PartialEq.eq AreHeld AreAny g.R.Records.stands g.R.Records.is_kept g.R.Records.base g.R.FlushRecords.leaves [] [] [] [] _ _ _ _ _ _ c.loop-request.invariant c.in_err-place_next.ensures)

pub returns-then-not-branch : goal.returns-then-not-branch
returns-then-not-branch g c = on_both {R = g.row.R.Denot} {A = g.row.A.Denot} {D = g.row.D.Denot} g.A.Application.has_applied g.A.Application.meaning g.R.Records.failed g.D.PartialEq.eq AreHeld AreAny [] [] [] [] [] _ _ _ _ _ _ c.loop-request.invariant c.in_ok-place_next.ensures
