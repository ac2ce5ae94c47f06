use Rattle.std.proofs.Common.{Some, refl, sym, subst, ap, ◌∙◌}
use Rattle.std.specs.Option.{option_copied_mut}
use Rattle.std.proofs.lemmas.Result.{IfOk-at_ok}
use Rattle.acceptor.specs.Steps.{Acceptor}
use Rattle.ballots.specs.Terms.{Setup}
use Rattle.node.specs.Nodes.{IsStrange}
use Rattle.world.specs.Seats.{IsAny}
use Rattle.world.proofs.Given.{if_none, if_some}
use Rattle.world.proofs.Hearing.{heard_planned, heard_skipped}
use Rattle.world.proofs.Settling.{runs_still, same_seat, stays, store_running}
use Rattle.world.proofs.seat.Seat.hear.Goals as goal

pub returns-in_default-clause-stays : goal.returns-in_default-clause-stays
returns-in_default-clause-stays g c = same_seat {R = g.row.R.Denot} {A = g.row.A.Denot} g.R.Records.stands g.R.Records.is_kept g.A.Application.has_applied IsAny c.args.self.now

pub returns-clause-stays : goal.returns-clause-stays
returns-clause-stays g c =
    let x = c.in-Some.node.now in
    let y = c.draft.new.self in
    stays {R = g.row.R.Denot} {A = g.row.A.Denot} g.R.Records.stands g.R.Records.is_kept g.A.Application.has_applied IsAny c.args.self.now (record { node = Some y; left = c.args.self.now.left }) x y
    (sym c.as_mut.ensures.value ∙ ap option_copied_mut c.in-Some.is) refl
    (λ k. subst (λ (a : Acceptor g.row.R.Denot). g.R.Records.is_kept a.records) c.draft.ensures.same.acceptor k)
    (ap (λ (a : Acceptor g.row.R.Denot). a.kept) c.draft.ensures.same.acceptor) c.draft.ensures.same.runs_as

pub returns-clause-store : goal.returns-clause-store
returns-clause-store g c =
    let x = c.in-Some.node.now in
    ap (λ (a : Acceptor g.row.R.Denot). Some a.records) c.draft.ensures.same.acceptor
    ∙ sym (store_running {R = g.row.R.Denot} {A = g.row.A.Denot} c.args.self.now x (sym c.as_mut.ensures.value ∙ ap option_copied_mut c.in-Some.is))

pub returns-clause-seat : goal.returns-clause-seat
returns-clause-seat g c = λ t seat.
    let x = c.in-Some.node.now in
    let y = c.draft.new.self in
    let there = sym c.as_mut.ensures.value ∙ ap option_copied_mut c.in-Some.is in
    let was = seat.running x there in
    runs_still {R = g.row.R.Denot} {A = g.row.A.Denot} t c.args.self.now (record { node = Some y; left = c.args.self.now.left }) c.draft.new.self refl refl (c.draft.ensures.same.setup ∙ was.0) (ap (λ (a : Acceptor g.row.R.Denot). a.is_stopped) c.draft.ensures.same.acceptor ∙ was.1) seat

pub returns-clause-drafted : goal.returns-clause-drafted
returns-clause-drafted g c =
    let x = c.in-Some.node.now in
    let y = c.draft.new.self in
    let there = sym c.as_mut.ensures.value ∙ ap option_copied_mut c.in-Some.is in
    if_some c.unless_refused.result _ _ (λ d is t seat.
    heard_planned {R = g.row.R.Denot} {A = g.row.A.Denot} g.A.Application.has_applied t y (record { node = Some y; left = c.args.self.now.left }) refl (c.draft.ensures.same.setup ∙ (seat.running x there).0) g.A.Application.meaning c.args.bytes.now d
    (IfOk-at_ok _ is c.draft.ensures.drafted)) c.unless_refused.ensures.some

pub returns-clause-skipped : goal.returns-clause-skipped
returns-clause-skipped g c =
    let x = c.in-Some.node.now in
    let y = c.draft.new.self in
    let there = sym c.as_mut.ensures.value ∙ ap option_copied_mut c.in-Some.is in
    if_none c.unless_refused.result _ _ (λ h t seat.
    heard_skipped {R = g.row.R.Denot} {A = g.row.A.Denot} g.A.Application.has_applied t y (record { node = Some y; left = c.args.self.now.left }) refl (c.draft.ensures.same.setup ∙ (seat.running x there).0) c.args.bytes.now c.draft.result h.0 h.1 h.2
    c.draft.ensures.wire
    (λ e. let s = c.draft.ensures.stranger e in (s.0, s.2, subst (λ (v : Setup). IsStrange v s.0) (seat.running x there).0 s.3))
    c.draft.ensures.store (λ e. sym (c.draft.ensures.stopped.0 e) ∙ c.requires.runs x there) c.draft.ensures.spent) c.unless_refused.ensures.none
