use Rattle.std.proofs.Common.{◌≡◌, ◌∙◌, true, [], ◌∷◌, refl, sym, ap, subst}
use Rattle.member.specs.declared.input.Tick.TheVariants.{Begin}
use Rattle.paxos.specs.Lists.{Has}
use Rattle.server_steps.specs.Held.{held_in}
use Rattle.server_steps.specs.Leading.{is_told}
use Rattle.server_steps.specs.Moves.{Ticked}
use Rattle.server_steps.proofs.Going.{halts_later, on_any, on_both, on_dropping, on_just, told_so, went_err}
use Rattle.server_steps.specs.Going.{AreAny, AreHeld}
use Rattle.server_steps.proofs.Holding.{held_at, held_dropping}
use Rattle.server_steps.specs.declared.hold.Hold.{Hold}
use Rattle.server_steps.proofs.state.State.begin_if_due.Goals as goal

pub returns-then-not-is_due : goal.returns-then-not-is_due
returns-then-not-is_due g c =
    held_dropping {R = g.row.R.Denot} {A = g.row.A.Denot} {D = g.row.D.Denot} g.A.Application.has_applied g.A.Application.meaning g.R.Records.failed g.D.PartialEq.eq _ _ c.is_due.ensures.seat (ap (λ (h : Hold g.row.D.Denot). h.place) c.is_due.ensures.hold) (held_at _ _ c.is_due.ensures.hold) c.is_due.ensures.told (λ e has. subst (λ w. Has (held_in w.requests.entries) e) c.is_due.ensures.waiting has)

pub returns-in_err-begin : goal.returns-in_err-begin
returns-in_err-begin g c =
    went_err {R = g.row.R.Denot} {A = g.row.A.Denot} {D = g.row.D.Denot} g.A.Application.has_applied g.A.Application.meaning g.R.Records.failed g.D.PartialEq.eq AreHeld AreAny g.R.Records.stands g.R.Records.is_kept g.R.Records.base g.R.FlushRecords.leaves c.from_residual.result _ _ _ _ _ _ _ c.from_residual.ensures.0
    (halts_later {R = g.row.R.Denot} {A = g.row.A.Denot} {D = g.row.D.Denot} g.A.Application.has_applied g.A.Application.meaning g.R.Records.failed g.D.PartialEq.eq AreHeld AreAny g.R.Records.stands g.R.Records.is_kept g.R.Records.base g.R.FlushRecords.leaves [] [] [] [] _ _ _ _ _ _
    (held_dropping {R = g.row.R.Denot} {A = g.row.A.Denot} {D = g.row.D.Denot} g.A.Application.has_applied g.A.Application.meaning g.R.Records.failed g.D.PartialEq.eq _ _ c.is_due.ensures.seat (ap (λ (h : Hold g.row.D.Denot). h.place) c.is_due.ensures.hold) (held_at _ _ c.is_due.ensures.hold) c.is_due.ensures.told (λ e has. subst (λ w. Has (held_in w.requests.entries) e) c.is_due.ensures.waiting has)) c.in_err-begin.ensures)

pub returns : goal.returns
returns g c =
    let told : is_told c.is_due.new.self.word ≡ true = c.is_due.ensures.told ∙ c.is_due.ensures.begins c.if-not-is_due.false in
    let still : is_told c.begin.new.self.word ≡ true = told_so {R = g.row.R.Denot} {A = g.row.A.Denot} {D = g.row.D.Denot} g.A.Application.has_applied g.A.Application.meaning g.R.Records.failed g.D.PartialEq.eq AreHeld AreAny _ _ _ _ _ _ c.in_ok-begin.ensures ∙ told in
    on_both {R = g.row.R.Denot} {A = g.row.A.Denot} {D = g.row.D.Denot} g.A.Application.has_applied g.A.Application.meaning g.R.Records.failed g.D.PartialEq.eq AreHeld AreAny [] [] [] [] [] _ _ _ _ _ _
    (on_both {R = g.row.R.Denot} {A = g.row.A.Denot} {D = g.row.D.Denot} g.A.Application.has_applied g.A.Application.meaning g.R.Records.failed g.D.PartialEq.eq AreHeld AreAny [] [] [] [] [] _ _ _ _ _ _
    (held_dropping {R = g.row.R.Denot} {A = g.row.A.Denot} {D = g.row.D.Denot} g.A.Application.has_applied g.A.Application.meaning g.R.Records.failed g.D.PartialEq.eq _ _ c.is_due.ensures.seat (ap (λ (h : Hold g.row.D.Denot). h.place) c.is_due.ensures.hold) (held_at _ _ c.is_due.ensures.hold) c.is_due.ensures.told (λ e has. subst (λ w. Has (held_in w.requests.entries) e) c.is_due.ensures.waiting has))
    (on_any {R = g.row.R.Denot} {A = g.row.A.Denot} {D = g.row.D.Denot} g.A.Application.has_applied g.A.Application.meaning g.R.Records.failed g.D.PartialEq.eq AreHeld AreAny (Ticked Begin ∷ []) [] [] _ _ _ _ (on_just {R = g.row.R.Denot} {A = g.row.A.Denot} {D = g.row.D.Denot} g.A.Application.has_applied g.A.Application.meaning g.R.Records.failed g.D.PartialEq.eq AreHeld AreAny (Ticked Begin ∷ []) [] _ _ _ _ refl (λ has. told) c.in_ok-begin.ensures)))
    (on_dropping {R = g.row.R.Denot} {A = g.row.A.Denot} {D = g.row.D.Denot} g.A.Application.has_applied g.A.Application.meaning g.R.Records.failed g.D.PartialEq.eq AreHeld AreAny _ _ _ refl refl (c.unless_begun-self.ensures.told still ∙ sym still) (λ e has. has))
