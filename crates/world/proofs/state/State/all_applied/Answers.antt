use Rattle.std.proofs.Common.{◌≡◌, ◌≤◌, ◌<◌, suc, Some, arith, refl, sym, subst, ⊎_elim, length, ◌∙◌}
use Rattle.std.proofs.lemmas.Bool.{cases_lt}
use Rattle.std.proofs.lemmas.Option.{same_Some, slice_get_read}
use Rattle.paxos.specs.Lists.{at}
use Rattle.world.specs.Seats.{IsUpToDate}
use Rattle.world.proofs.Placing.{at_within}
use Rattle.world.proofs.state.State.all_applied.Goals as goal

pub returns-then-not-is_up_to_date-clause-one : goal.returns-then-not-is_up_to_date-clause-one
returns-then-not-is_up_to_date-clause-one g c = λ q.
    let items = c.deref-seat-items.result.now in
    let i = c.loop-seat.seat-index in
    (suc i, c.seat-item.result, subst (λ xs. at xs (suc i) ≡ Some c.seat-item.result) c.deref-seat-items.ensures.value (slice_get_read items (length items) i c.seat-item.result refl c.loop-seat-test.true c.seat-item.is), c.is_up_to_date.ensures.one c.if-not-is_up_to_date.true)

pub loop-seat-preserved : goal.loop-seat-preserved
loop-seat-preserved g c = λ m s most there.
    let items = c.deref-seat-items.result.now in
    let i = c.loop-seat.seat-index in
    let item = c.seat-item.result in
    let here = subst (λ xs. at xs (suc i) ≡ Some item) c.deref-seat-items.ensures.value (slice_get_read items (length items) i item refl c.loop-seat-test.true c.seat-item.is) in
    ⊎_elim
    (λ (l : i < m).
    let e : m ≡ suc i = omega (arith, l, most) in
    subst (IsUpToDate {R = g.row.R.Denot} {A = g.row.A.Denot} g.A.Application.has_applied) (same_Some item s (sym here ∙ subst (λ k. at c.args.self.now.seats.items k ≡ Some s) e there)) (c.is_up_to_date.ensures.all c.if-not-is_up_to_date.false))
    (λ (l : m ≤ i). c.loop-seat.invariant m s l there)
    (cases_lt i m)

pub returns-clause-all : goal.returns-clause-all
returns-clause-all g c = λ q m s there.
    let within = at_within c.args.self.now.seats.items m s there in
    c.loop-seat.invariant m s (omega (arith, within, c.loop-seat-test.false, c.deref-seat-items.ensures.len)) there
