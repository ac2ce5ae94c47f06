use Rattle.std.proofs.Common.{[], refl}
use Rattle.member.specs.declared.input.Tick.TheVariants.{CatchUp}
use Rattle.server_steps.proofs.Going.{halts_later, no_begin, on_both, went_both, went_by, went_err}
use Rattle.server_steps.specs.Going.{AreAny, AreHeld}
use Rattle.server_steps.proofs.state.State.follow.Goals as goal

pub returns-in_err-place_waiting : goal.returns-in_err-place_waiting
returns-in_err-place_waiting g c =
    let r = c.from_residual-in_err-place_waiting in
    went_err {R = g.row.R.Denot} {A = g.row.A.Denot} {D = g.row.D.Denot} g.A.Application.has_applied g.A.Application.meaning g.R.Records.failed g.D.PartialEq.eq AreHeld AreAny g.R.Records.stands g.R.Records.is_kept g.R.Records.base g.R.FlushRecords.leaves r.result _ _ _ _ _ _ _ r.ensures.0
    (halts_later {R = g.row.R.Denot} {A = g.row.A.Denot} {D = g.row.D.Denot} g.A.Application.has_applied g.A.Application.meaning g.R.Records.failed g.D.PartialEq.eq AreHeld AreAny g.R.Records.stands g.R.Records.is_kept g.R.Records.base g.R.FlushRecords.leaves [] [] [] [] _ _ _ _ _ _ c.in_ok-tell_applied.ensures c.in_err-place_waiting.ensures)

pub returns-then-saturating_sub-lt-AT_ONCE : goal.returns-then-saturating_sub-lt-AT_ONCE
returns-then-saturating_sub-lt-AT_ONCE g c = on_both {R = g.row.R.Denot} {A = g.row.A.Denot} {D = g.row.D.Denot} g.A.Application.has_applied g.A.Application.meaning g.R.Records.failed g.D.PartialEq.eq AreHeld AreAny [] [] [] [] [] _ _ _ _ _ _ c.in_ok-tell_applied.ensures c.in_ok-place_waiting.ensures

pub returns : goal.returns
returns g c =
    went_both {R = g.row.R.Denot} {A = g.row.A.Denot} {D = g.row.D.Denot} g.A.Application.has_applied g.A.Application.meaning g.R.Records.failed g.D.PartialEq.eq AreHeld AreAny g.R.Records.stands g.R.Records.is_kept g.R.Records.base g.R.FlushRecords.leaves c.tick_once.result [] [] [] [] [] _ _ _ _ _ _
    (on_both {R = g.row.R.Denot} {A = g.row.A.Denot} {D = g.row.D.Denot} g.A.Application.has_applied g.A.Application.meaning g.R.Records.failed g.D.PartialEq.eq AreHeld AreAny [] [] [] [] [] _ _ _ _ _ _ c.in_ok-tell_applied.ensures c.in_ok-place_waiting.ensures)
    (went_by {R = g.row.R.Denot} {A = g.row.A.Denot} {D = g.row.D.Denot} g.A.Application.has_applied g.A.Application.meaning g.R.Records.failed g.D.PartialEq.eq AreHeld AreAny g.R.Records.stands g.R.Records.is_kept g.R.Records.base g.R.FlushRecords.leaves c.tick_once.result _ _ _ _ _ refl (no_begin CatchUp (λ e. cc)) c.tick_once.ensures)
