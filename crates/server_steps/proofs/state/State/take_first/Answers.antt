use Rattle.std.proofs.Common.{refl, ap, ◌∙◌, inl, sym, subst}
use Rattle.server_steps.proofs.Going.{goes_taking, halts_at_once, went_err}
use Rattle.server_steps.proofs.Holding.{held_at, holds_more, holds_same}
use Rattle.server_steps.specs.Leading.{is_told}
use Rattle.server_steps.specs.Going.{AreAny, AreHeld}
use Rattle.server_steps.specs.Moves.{Takes}
use Rattle.server_steps.specs.declared.hold.Hold.{Hold}
use Rattle.server_steps.specs.declared.seat.Seat.{Seat}
use Rattle.server_steps.proofs.state.State.take_first.Goals as goal

pub returns-in_err-hear : goal.returns-in_err-hear
returns-in_err-hear g c =
    let h = c.in_err-hear.ensures.halted in
    went_err {R = g.row.R.Denot} {A = g.row.A.Denot} {D = g.row.D.Denot} g.A.Application.has_applied g.A.Application.meaning g.R.Records.failed g.D.PartialEq.eq AreHeld AreAny g.R.Records.stands g.R.Records.is_kept g.R.Records.base g.R.FlushRecords.leaves c.from_residual.result _ _ _ _ _ _ _ c.from_residual.ensures.0
    (halts_at_once {R = g.row.R.Denot} {A = g.row.A.Denot} {D = g.row.D.Denot} g.A.Application.has_applied g.A.Application.meaning g.R.Records.failed g.D.PartialEq.eq AreHeld AreAny g.R.Records.stands g.R.Records.is_kept g.R.Records.base g.R.FlushRecords.leaves _ _ _ _ h.0 (holds_same _ _ h.1) (λ ds b. tt))

pub returns-in-Client : goal.returns-in-Client
returns-in-Client g c =
    let h = c.in_ok-hear.ensures.heard c.args.arrival.end in
    goes_taking {R = g.row.R.Denot} {A = g.row.A.Denot} {D = g.row.D.Denot} g.A.Application.has_applied g.A.Application.meaning g.R.Records.failed g.D.PartialEq.eq AreHeld AreAny _ _ _ _ _ h.0 h.1 c.hear.ensures.place refl (λ e has. inl has) (holds_more _ _ _ h.2) (λ ds b. tt)

pub returns-in-Members : goal.returns-in-Members
returns-in-Members g c =
    let h = c.in_ok-hear.ensures.heard c.args.arrival.end in
    goes_taking {R = g.row.R.Denot} {A = g.row.A.Denot} {D = g.row.D.Denot} g.A.Application.has_applied g.A.Application.meaning g.R.Records.failed g.D.PartialEq.eq AreHeld AreAny _ _ _ _ _ h.0
    (subst (λ (s : Seat g.row.R.Denot g.row.A.Denot). Takes g.A.Application.has_applied g.A.Application.meaning g.R.Records.failed g.D.PartialEq.eq c.args.self.now.hold.place (record { end = c.args.arrival.end; peer = c.args.arrival.from; bytes = c.args.bytes.now }) c.args.self.now.seat s h.0) (sym c.keep.ensures.seat) h.1)
    (ap (λ (l : Hold g.row.D.Denot). l.place) c.keep.ensures.hold ∙ c.hear.ensures.place) (ap is_told c.keep.ensures.word) c.keep.ensures.waiting (holds_more _ _ _ (held_at _ _ c.keep.ensures.hold ∙ h.2)) (λ ds b. tt)

pub returns-in-Nobody : goal.returns-in-Nobody
returns-in-Nobody g c =
    let h = c.in_ok-hear.ensures.heard c.args.arrival.end in
    goes_taking {R = g.row.R.Denot} {A = g.row.A.Denot} {D = g.row.D.Denot} g.A.Application.has_applied g.A.Application.meaning g.R.Records.failed g.D.PartialEq.eq AreHeld AreAny _ _ _ _ _ h.0
    (subst (λ (s : Seat g.row.R.Denot g.row.A.Denot). Takes g.A.Application.has_applied g.A.Application.meaning g.R.Records.failed g.D.PartialEq.eq c.args.self.now.hold.place (record { end = c.args.arrival.end; peer = c.args.arrival.from; bytes = c.args.bytes.now }) c.args.self.now.seat s h.0) (sym c.keep-in-Nobody.ensures.seat) h.1)
    (ap (λ (l : Hold g.row.D.Denot). l.place) c.keep-in-Nobody.ensures.hold ∙ c.hear.ensures.place) (ap is_told c.keep-in-Nobody.ensures.word) c.keep-in-Nobody.ensures.waiting (holds_more _ _ _ (held_at _ _ c.keep-in-Nobody.ensures.hold ∙ h.2)) (λ ds b. tt)
