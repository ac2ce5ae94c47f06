use Rattle.std.proofs.Common.{[]}
use Rattle.server_steps.proofs.Going.{halts_later, on_both, on_none, went_err}
use Rattle.server_steps.specs.Going.{AreAny, AreHeld}
use Rattle.server_steps.proofs.state.State.tell_applied.Goals as goal

pub loop-position-init : goal.loop-position-init
loop-position-init g c = on_none {R = g.row.R.Denot} {A = g.row.A.Denot} {D = g.row.D.Denot} g.A.Application.has_applied g.A.Application.meaning g.R.Records.failed g.D.PartialEq.eq AreHeld AreAny _ _

pub loop-position-preserved : goal.loop-position-preserved
loop-position-preserved g c = on_both {R = g.row.R.Denot} {A = g.row.A.Denot} {D = g.row.D.Denot} g.A.Application.has_applied g.A.Application.meaning g.R.Records.failed g.D.PartialEq.eq AreHeld AreAny [] [] [] [] [] _ _ _ _ _ _ c.loop-position.invariant c.in_ok-tell_next.ensures

pub returns-in_err-tell_next : goal.returns-in_err-tell_next
returns-in_err-tell_next g c =
    went_err {R = g.row.R.Denot} {A = g.row.A.Denot} {D = g.row.D.Denot} g.A.Application.has_applied g.A.Application.meaning g.R.Records.failed g.D.PartialEq.eq AreHeld AreAny g.R.Records.stands g.R.Records.is_kept g.R.Records.base g.R.FlushRecords.leaves c.from_residual.result _ _ _ _ _ _ _ c.from_residual.ensures.0
    (halts_later {R = g.row.R.Denot} {A = g.row.A.Denot} {D = g.row.D.Denot} g.A.Application.has_applied g.A.Application.meaning g.R.Records.failed g.D.PartialEq.eq AreHeld AreAny g.R.Records.stands g.R.Records.is_kept g.R.Records.base g.R.FlushRecords.leaves [] [] [] [] _ _ _ _ _ _ c.loop-position.invariant c.in_err-tell_next.ensures)

pub returns-then-not-branch : goal.returns-then-not-branch
returns-then-not-branch g c = on_both {R = g.row.R.Denot} {A = g.row.A.Denot} {D = g.row.D.Denot} g.A.Application.has_applied g.A.Application.meaning g.R.Records.failed g.D.PartialEq.eq AreHeld AreAny [] [] [] [] [] _ _ _ _ _ _ c.loop-position.invariant c.in_ok-tell_next.ensures
