use Rattle.std.proofs.Common.{Some, refl, sym, subst, ap, ◌∙◌}
use Rattle.std.specs.Option.{option_copied_mut}
use Rattle.std.proofs.lemmas.Result.{IfOk-at_ok}
use Rattle.acceptor.specs.Steps.{Acceptor}
use Rattle.member.specs.Steps.{ticked}
use Rattle.world.specs.Seats.{IsAny}
use Rattle.world.proofs.Given.{if_none, if_some, on_at_ok}
use Rattle.world.proofs.Hearing.{tick_planned, tick_skipped}
use Rattle.world.proofs.Settling.{runs_still, same_seat, stays, store_running}
use Rattle.world.proofs.seat.Seat.tick.Goals as goal

pub returns-in_default-clause-stays : goal.returns-in_default-clause-stays
returns-in_default-clause-stays g c = same_seat {R = g.row.R.Denot} {A = g.row.A.Denot} g.R.Records.stands g.R.Records.is_kept g.A.Application.has_applied IsAny c.args.self.now

pub returns-clause-stays : goal.returns-clause-stays
returns-clause-stays g c =
    let x = c.in-Some.node.now in
    let y = c.draft_tick.new.self in
    stays {R = g.row.R.Denot} {A = g.row.A.Denot} g.R.Records.stands g.R.Records.is_kept g.A.Application.has_applied IsAny c.args.self.now (record { node = Some y; left = c.args.self.now.left }) x y
    (sym c.as_mut.ensures.value ∙ ap option_copied_mut c.in-Some.is) refl
    (λ k. subst (λ (a : Acceptor g.row.R.Denot). g.R.Records.is_kept a.records) c.draft_tick.ensures.same.acceptor k)
    (ap (λ (a : Acceptor g.row.R.Denot). a.kept) c.draft_tick.ensures.same.acceptor) c.draft_tick.ensures.same.runs_as

pub returns-clause-store : goal.returns-clause-store
returns-clause-store g c =
    let x = c.in-Some.node.now in
    ap (λ (a : Acceptor g.row.R.Denot). Some a.records) c.draft_tick.ensures.same.acceptor
    ∙ sym (store_running {R = g.row.R.Denot} {A = g.row.A.Denot} c.args.self.now x (sym c.as_mut.ensures.value ∙ ap option_copied_mut c.in-Some.is))

pub returns-clause-seat : goal.returns-clause-seat
returns-clause-seat g c = λ t seat.
    let x = c.in-Some.node.now in
    let y = c.draft_tick.new.self in
    let there = sym c.as_mut.ensures.value ∙ ap option_copied_mut c.in-Some.is in
    let was = seat.running x there in
    runs_still {R = g.row.R.Denot} {A = g.row.A.Denot} t c.args.self.now (record { node = Some y; left = c.args.self.now.left }) c.draft_tick.new.self refl refl (c.draft_tick.ensures.same.setup ∙ was.0) (ap (λ (a : Acceptor g.row.R.Denot). a.is_stopped) c.draft_tick.ensures.same.acceptor ∙ was.1) seat

pub returns-clause-drafted : goal.returns-clause-drafted
returns-clause-drafted g c =
    let x = c.in-Some.node.now in
    let y = c.draft_tick.new.self in
    let there = sym c.as_mut.ensures.value ∙ ap option_copied_mut c.in-Some.is in
    if_some c.unless_refused.result _ _ (λ d is t seat.
    tick_planned {R = g.row.R.Denot} {A = g.row.A.Denot} g.A.Application.has_applied t y (record { node = Some y; left = c.args.self.now.left }) refl (c.draft_tick.ensures.same.setup ∙ (seat.running x there).0) g.A.Application.meaning (ticked c.args.tick) d
    (IfOk-at_ok _ is c.draft_tick.ensures.drafted) (on_at_ok _ is c.draft_tick.ensures.begins)) c.unless_refused.ensures.some

pub returns-clause-skipped : goal.returns-clause-skipped
returns-clause-skipped g c =
    let x = c.in-Some.node.now in
    let y = c.draft_tick.new.self in
    let there = sym c.as_mut.ensures.value ∙ ap option_copied_mut c.in-Some.is in
    if_none c.unless_refused.result _ _ (λ h t seat.
    tick_skipped {R = g.row.R.Denot} {A = g.row.A.Denot} g.A.Application.has_applied t y (record { node = Some y; left = c.args.self.now.left }) refl (c.draft_tick.ensures.same.setup ∙ (seat.running x there).0) (ticked c.args.tick) c.draft_tick.result h.0 h.1 h.2
    c.draft_tick.ensures.faults (λ e. sym (c.draft_tick.ensures.stopped.0 e) ∙ c.requires.runs x there) c.draft_tick.ensures.still_spent) c.unless_refused.ensures.none
