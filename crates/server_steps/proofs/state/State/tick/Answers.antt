use Rattle.std.proofs.Common.{Bool, [], ◌∷◌, refl, inl, inr}
use Rattle.member.specs.declared.input.Tick.TheVariants.{CatchUp, Resend}
use Rattle.server_steps.specs.Moves.{BeginsIfTold, Ticked}
use Rattle.server_steps.proofs.Going.{goes_both, halts_after, halts_later, no_begin, on_both, on_just, went_both, went_err}
use Rattle.server_steps.specs.Going.{AreAny, AreHeld}
use Rattle.server_steps.proofs.state.State.tick.Goals as goal

both : {D : Type 0} {told : Bool} → BeginsIfTold {D = D} told (Ticked Resend ∷ Ticked CatchUp ∷ [])
both (inl is) = no_begin Resend (λ e. cc) (inl is)
both (inr has) = no_begin CatchUp (λ e. cc) has

pub returns-in_err-tick_once : goal.returns-in_err-tick_once
returns-in_err-tick_once g c = went_err {R = g.row.R.Denot} {A = g.row.A.Denot} {D = g.row.D.Denot} g.A.Application.has_applied g.A.Application.meaning g.R.Records.failed g.D.PartialEq.eq AreHeld AreAny g.R.Records.stands g.R.Records.is_kept g.R.Records.base g.R.FlushRecords.leaves c.from_residual.result _ _ _ _ _ _ _ c.from_residual.ensures.0 c.in_err-tick_once.ensures

pub returns-in_err-tick_once-2 : goal.returns-in_err-tick_once-2
returns-in_err-tick_once-2 g c =
    let r = c.from_residual-in_err-tick_once-2 in
    went_err {R = g.row.R.Denot} {A = g.row.A.Denot} {D = g.row.D.Denot} g.A.Application.has_applied g.A.Application.meaning g.R.Records.failed g.D.PartialEq.eq AreHeld AreAny g.R.Records.stands g.R.Records.is_kept g.R.Records.base g.R.FlushRecords.leaves r.result _ _ _ _ _ _ _ r.ensures.0
    (halts_after {R = g.row.R.Denot} {A = g.row.A.Denot} {D = g.row.D.Denot} g.A.Application.has_applied g.A.Application.meaning g.R.Records.failed g.D.PartialEq.eq AreHeld AreAny g.R.Records.stands g.R.Records.is_kept g.R.Records.base g.R.FlushRecords.leaves _ _ _ _ _ _ _ [] [] (no_begin Resend (λ e. cc)) c.in_ok-tick_once.ensures c.in_err-tick_once-2.ensures)

pub returns-in_err-tell_applied : goal.returns-in_err-tell_applied
returns-in_err-tell_applied g c =
    let r = c.from_residual-in_err-tell_applied in
    went_err {R = g.row.R.Denot} {A = g.row.A.Denot} {D = g.row.D.Denot} g.A.Application.has_applied g.A.Application.meaning g.R.Records.failed g.D.PartialEq.eq AreHeld AreAny g.R.Records.stands g.R.Records.is_kept g.R.Records.base g.R.FlushRecords.leaves r.result _ _ _ _ _ _ _ r.ensures.0
    (halts_after {R = g.row.R.Denot} {A = g.row.A.Denot} {D = g.row.D.Denot} g.A.Application.has_applied g.A.Application.meaning g.R.Records.failed g.D.PartialEq.eq AreHeld AreAny g.R.Records.stands g.R.Records.is_kept g.R.Records.base g.R.FlushRecords.leaves _ _ _ _ _ _ _ [] [] both (goes_both {R = g.row.R.Denot} {A = g.row.A.Denot} {D = g.row.D.Denot} g.A.Application.has_applied g.A.Application.meaning g.R.Records.failed g.D.PartialEq.eq AreHeld AreAny _ _ _ _ _ _ _ _ [] [] c.in_ok-tick_once.ensures c.in_ok-tick_once-2.ensures) c.in_err-tell_applied.ensures)

pub returns-in_err-answer_waiting : goal.returns-in_err-answer_waiting
returns-in_err-answer_waiting g c =
    let r = c.from_residual-in_err-answer_waiting in
    went_err {R = g.row.R.Denot} {A = g.row.A.Denot} {D = g.row.D.Denot} g.A.Application.has_applied g.A.Application.meaning g.R.Records.failed g.D.PartialEq.eq AreHeld AreAny g.R.Records.stands g.R.Records.is_kept g.R.Records.base g.R.FlushRecords.leaves r.result _ _ _ _ _ _ _ r.ensures.0
    (halts_later {R = g.row.R.Denot} {A = g.row.A.Denot} {D = g.row.D.Denot} g.A.Application.has_applied g.A.Application.meaning g.R.Records.failed g.D.PartialEq.eq AreHeld AreAny g.R.Records.stands g.R.Records.is_kept g.R.Records.base g.R.FlushRecords.leaves (Ticked Resend ∷ Ticked CatchUp ∷ []) [] [] [] _ _ _ _ _ _
    (on_both {R = g.row.R.Denot} {A = g.row.A.Denot} {D = g.row.D.Denot} g.A.Application.has_applied g.A.Application.meaning g.R.Records.failed g.D.PartialEq.eq AreHeld AreAny (Ticked Resend ∷ Ticked CatchUp ∷ []) [] [] [] [] _ _ _ _ _ _
    (on_just {R = g.row.R.Denot} {A = g.row.A.Denot} {D = g.row.D.Denot} g.A.Application.has_applied g.A.Application.meaning g.R.Records.failed g.D.PartialEq.eq AreHeld AreAny (Ticked Resend ∷ Ticked CatchUp ∷ []) [] _ _ _ _ refl both (goes_both {R = g.row.R.Denot} {A = g.row.A.Denot} {D = g.row.D.Denot} g.A.Application.has_applied g.A.Application.meaning g.R.Records.failed g.D.PartialEq.eq AreHeld AreAny _ _ _ _ _ _ _ _ [] [] c.in_ok-tick_once.ensures c.in_ok-tick_once-2.ensures))
    c.in_ok-tell_applied.ensures)
    c.in_err-answer_waiting.ensures)

pub returns : goal.returns
returns g c =
    went_both {R = g.row.R.Denot} {A = g.row.A.Denot} {D = g.row.D.Denot} g.A.Application.has_applied g.A.Application.meaning g.R.Records.failed g.D.PartialEq.eq AreHeld AreAny g.R.Records.stands g.R.Records.is_kept g.R.Records.base g.R.FlushRecords.leaves c.begin_if_due.result (Ticked Resend ∷ Ticked CatchUp ∷ []) [] [] [] [] _ _ _ _ _ _
    (on_both {R = g.row.R.Denot} {A = g.row.A.Denot} {D = g.row.D.Denot} g.A.Application.has_applied g.A.Application.meaning g.R.Records.failed g.D.PartialEq.eq AreHeld AreAny (Ticked Resend ∷ Ticked CatchUp ∷ []) [] [] [] [] _ _ _ _ _ _
    (on_both {R = g.row.R.Denot} {A = g.row.A.Denot} {D = g.row.D.Denot} g.A.Application.has_applied g.A.Application.meaning g.R.Records.failed g.D.PartialEq.eq AreHeld AreAny (Ticked Resend ∷ Ticked CatchUp ∷ []) [] [] [] [] _ _ _ _ _ _
    (on_just {R = g.row.R.Denot} {A = g.row.A.Denot} {D = g.row.D.Denot} g.A.Application.has_applied g.A.Application.meaning g.R.Records.failed g.D.PartialEq.eq AreHeld AreAny (Ticked Resend ∷ Ticked CatchUp ∷ []) [] _ _ _ _ refl both (goes_both {R = g.row.R.Denot} {A = g.row.A.Denot} {D = g.row.D.Denot} g.A.Application.has_applied g.A.Application.meaning g.R.Records.failed g.D.PartialEq.eq AreHeld AreAny _ _ _ _ _ _ _ _ [] [] c.in_ok-tick_once.ensures c.in_ok-tick_once-2.ensures))
    c.in_ok-tell_applied.ensures)
    c.in_ok-answer_waiting.ensures)
    c.begin_if_due.ensures
