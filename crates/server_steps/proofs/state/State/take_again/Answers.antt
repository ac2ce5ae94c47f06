use Rattle.std.proofs.Common.{refl}
use Rattle.server_steps.proofs.Going.{goes_again_with, on_none, halts_at_once, went_err}
use Rattle.server_steps.proofs.Holding.{holds_more, holds_same}
use Rattle.server_steps.specs.Going.{AreAny, AreHeld}
use Rattle.server_steps.proofs.state.State.take_again.Goals as goal

pub returns-in_default : goal.returns-in_default
returns-in_default g c = on_none {R = g.row.R.Denot} {A = g.row.A.Denot} {D = g.row.D.Denot} g.A.Application.has_applied g.A.Application.meaning g.R.Records.failed g.D.PartialEq.eq AreHeld AreAny _ _

pub returns-in_err-told : goal.returns-in_err-told
returns-in_err-told g c =
    let h = c.in_err-told.ensures.halted in
    went_err {R = g.row.R.Denot} {A = g.row.A.Denot} {D = g.row.D.Denot} g.A.Application.has_applied g.A.Application.meaning g.R.Records.failed g.D.PartialEq.eq AreHeld AreAny g.R.Records.stands g.R.Records.is_kept g.R.Records.base g.R.FlushRecords.leaves c.from_residual.result _ _ _ _ _ _ _ c.from_residual.ensures.0
    (halts_at_once {R = g.row.R.Denot} {A = g.row.A.Denot} {D = g.row.D.Denot} g.A.Application.has_applied g.A.Application.meaning g.R.Records.failed g.D.PartialEq.eq AreHeld AreAny g.R.Records.stands g.R.Records.is_kept g.R.Records.base g.R.FlushRecords.leaves _ _ _ _ h.0 (holds_same _ _ h.1) (λ ds b. tt))

pub returns-then-eq : goal.returns-then-eq
returns-then-eq g c =
    let h = c.in_ok-told.ensures.heard c.in-Some.held.now.end in
    goes_again_with {R = g.row.R.Denot} {A = g.row.A.Denot} {D = g.row.D.Denot} g.A.Application.has_applied g.A.Application.meaning g.R.Records.failed g.D.PartialEq.eq AreHeld AreAny _ _ _ _ c.in-Some.held.now c.as_slice.result.now h.0 c.as_slice.ensures.value c.in-Some.ensures h.1 c.hear.ensures.place refl c.drop_request.ensures (holds_more _ _ _ h.2) (λ ds b. tt)

pub returns-else-eq : goal.returns-else-eq
returns-else-eq g c =
    let h = c.in_ok-told.ensures.heard c.in-Some.held.now.end in
    goes_again_with {R = g.row.R.Denot} {A = g.row.A.Denot} {D = g.row.D.Denot} g.A.Application.has_applied g.A.Application.meaning g.R.Records.failed g.D.PartialEq.eq AreHeld AreAny _ _ _ _ c.in-Some.held.now c.as_slice.result.now h.0 c.as_slice.ensures.value c.in-Some.ensures h.1 c.hear.ensures.place refl (λ e has. has) (holds_more _ _ _ h.2) (λ ds b. tt)
