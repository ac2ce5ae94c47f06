use Rattle.std.proofs.Common.{◌≡◌, ℕ, refl, suc, ◌∷◌, ◌+◌, ◌*◌, ◌<◌, ◌≤◌, [], arith, sym, subst, take}
use Rattle.std.proofs.lemmas.List.{take_all}
use Rattle.std.proofs.lemmas.Result.{err_from_is_err_and}
use Rattle.world.specs.Held.{shown}
use Rattle.world.specs.Runs.{LeadsSmoothly, Ran, StoppedAt, StopsAt, straight_event, straight_run}
use Rattle.world.specs.Reached.{HasHappened}
use Rattle.world.proofs.Going.{ran_on, ran_until}
use Rattle.world.proofs.Leading.{smoothly_join, smoothly_none}
use Rattle.world.proofs.Straightly.{length_straight, stopped_at, straight_at, take_step}
use Rattle.world.proofs.state.State.straight.Goals as goal

pub loop-before-init : goal.loop-before-init
loop-before-init g c = (c.requires.held, smoothly_none {R = g.row.R.Denot} {A = g.row.A.Denot} g.R.Records.stands g.R.Records.is_kept g.A.Application.has_applied (g.A.Application.meaning c.args.self.now.names) (shown c.args.self.now), refl)

pub go_straight-requires-clause-held : goal.go_straight-requires-clause-held
go_straight-requires-clause-held g c = c.loop-before.invariant.0

pub go_straight-requires-clause-most : goal.go_straight-requires-clause-most
go_straight-requires-clause-most g c = subst (λ n. c.args.member ≤ n) (sym c.loop-before.invariant.1.leads.members) c.requires.most

pub go_straight-requires-clause-few : goal.go_straight-requires-clause-few
go_straight-requires-clause-few g c = subst (λ n. c.loop-before.before < n * n + 3 * n + 3) (sym c.loop-before.invariant.1.leads.members) (subst (λ k. c.loop-before.before < k) c.straight_events-events.ensures c.loop-before-test.true)

pub loop-before-preserved : goal.loop-before-preserved
loop-before-preserved g c =
    let i = c.loop-before.invariant in
    let old = shown c.args.self.now in
    let mid = shown c.loop-before.self in
    let end = shown c.go_straight.new.self in
    let m = c.args.member in
    let q = c.args.request.now in
    let before = c.loop-before.before in
    let events = straight_run old.members m q in
    let e = straight_event old.members m q before in (
      c.go_straight.ensures.held,
      subst (LeadsSmoothly {R = g.row.R.Denot} {A = g.row.A.Denot} g.R.Records.stands g.R.Records.is_kept g.A.Application.has_applied (g.A.Application.meaning old.names) old end)
          (sym (take_step events before e (straight_at old.members m q before (subst (λ k. before < k) c.straight_events-events.ensures c.loop-before-test.true))))
          (smoothly_join {R = g.row.R.Denot} {A = g.row.A.Denot} g.R.Records.stands g.R.Records.is_kept g.A.Application.has_applied (g.A.Application.meaning old.names) old mid end (take before events) (e ∷ []) i.1
          (subst (λ n. LeadsSmoothly {R = g.row.R.Denot} {A = g.row.A.Denot} g.R.Records.stands g.R.Records.is_kept g.A.Application.has_applied (g.A.Application.meaning old.names) mid end (straight_event n m q before ∷ [])) i.1.leads.members (subst (λ ns. LeadsSmoothly {R = g.row.R.Denot} {A = g.row.A.Denot} g.R.Records.stands g.R.Records.is_kept g.A.Application.has_applied (g.A.Application.meaning ns) mid end (straight_event mid.members m q before ∷ [])) i.1.leads.names c.in_ok-go_straight.ensures.done))),
      subst (λ k. Ran {R = g.row.R.Denot} {A = g.row.A.Denot} g.R.Records.stands g.R.Records.is_kept g.R.Records.failed g.R.Records.fates g.A.Application.has_applied (g.A.Application.meaning old.names) (take k events) old end) (suc_is before)
          (ran_on {R = g.row.R.Denot} {A = g.row.A.Denot} g.R.Records.stands g.R.Records.is_kept g.R.Records.failed g.R.Records.fates g.A.Application.has_applied (g.A.Application.meaning old.names) events before e old mid end (straight_at old.members m q before (subst (λ k. before < k) c.straight_events-events.ensures c.loop-before-test.true)) i.2
          (subst (λ n. HasHappened {R = g.row.R.Denot} {A = g.row.A.Denot} g.R.Records.stands g.R.Records.is_kept g.R.Records.failed g.R.Records.fates g.A.Application.has_applied (g.A.Application.meaning old.names) (straight_event n m q before) mid end) i.1.leads.members (subst (λ ns. HasHappened {R = g.row.R.Denot} {A = g.row.A.Denot} g.R.Records.stands g.R.Records.is_kept g.R.Records.failed g.R.Records.fates g.A.Application.has_applied (g.A.Application.meaning ns) (straight_event mid.members m q before) mid end) i.1.leads.names c.in_ok-go_straight.ensures.ran))),
    )
  where
    suc_is : (k : ℕ) → suc k ≡ k + 1
    suc_is k = omega arith

pub returns-in_err-go_straight-clause-refused : goal.returns-in_err-go_straight-clause-refused
returns-in_err-go_straight-clause-refused g c =
    let i = c.loop-before.invariant in
    let old = shown c.args.self.now in
    let mid = shown c.loop-before.self in
    let m = c.args.member in
    let q = c.args.request.now in
    let before = c.loop-before.before in
    let end = shown c.go_straight.new.self in
    let fault = c.in_err-go_straight.field-0.0 in
    let least = subst (λ k. before < k) c.straight_events-events.ensures c.loop-before-test.true in
    let p = err_from_is_err_and c.from_residual.result c.from_residual.ensures.1 in
    rw (p.1, p.2) (stopped_at {R = g.row.R.Denot} {A = g.row.A.Denot} g.R.Records.stands g.R.Records.is_kept g.A.Application.has_applied (g.A.Application.meaning old.names) old mid end (straight_run old.members m q) before (straight_event old.members m q before) fault
    (subst (λ k. before < k) (sym (length_straight old.members m q)) least) (straight_at old.members m q before least) i.1.leads
    (subst (λ n. StopsAt {R = g.row.R.Denot} {A = g.row.A.Denot} g.R.Records.stands g.R.Records.is_kept g.A.Application.has_applied (g.A.Application.meaning old.names) mid end (straight_event n m q before) before fault) i.1.leads.members (subst (λ ns. StopsAt {R = g.row.R.Denot} {A = g.row.A.Denot} g.R.Records.stands g.R.Records.is_kept g.A.Application.has_applied (g.A.Application.meaning ns) mid end (straight_event mid.members m q before) before fault) i.1.leads.names c.in_err-go_straight.ensures.refused)))

pub returns-in_err-go_straight-clause-ran_until : goal.returns-in_err-go_straight-clause-ran_until
returns-in_err-go_straight-clause-ran_until g c =
    let i = c.loop-before.invariant in
    let old = shown c.args.self.now in
    let mid = shown c.loop-before.self in
    let m = c.args.member in
    let q = c.args.request.now in
    let before = c.loop-before.before in
    let end = shown c.go_straight.new.self in
    let fault = c.in_err-go_straight.field-0.0 in
    let least = subst (λ k. before < k) c.straight_events-events.ensures c.loop-before-test.true in
    let p = err_from_is_err_and c.from_residual.result c.from_residual.ensures.1 in
    rw (p.1, p.2) (ran_until {R = g.row.R.Denot} {A = g.row.A.Denot} g.R.Records.stands g.R.Records.is_kept g.R.Records.failed g.R.Records.fates g.A.Application.has_applied (g.A.Application.meaning old.names) (straight_run old.members m q) before (straight_event old.members m q before) old mid end fault
    (subst (λ k. before < k) (sym (length_straight old.members m q)) least) (straight_at old.members m q before least) i.2
    (subst (λ n. StoppedAt {R = g.row.R.Denot} {A = g.row.A.Denot} g.R.Records.stands g.R.Records.is_kept g.R.Records.failed g.R.Records.fates g.A.Application.has_applied (g.A.Application.meaning old.names) (straight_event n m q before) before mid end fault) i.1.leads.members (subst (λ ns. StoppedAt {R = g.row.R.Denot} {A = g.row.A.Denot} g.R.Records.stands g.R.Records.is_kept g.R.Records.failed g.R.Records.fates g.A.Application.has_applied (g.A.Application.meaning ns) (straight_event mid.members m q before) before mid end fault) i.1.leads.names c.in_err-go_straight.ensures.ran_until)))

pub returns-clause-ran : goal.returns-clause-ran
returns-clause-ran g c =
    let old = shown c.args.self.now in
    let events = straight_run old.members c.args.member c.args.request.now in
    subst (λ es. Ran {R = g.row.R.Denot} {A = g.row.A.Denot} g.R.Records.stands g.R.Records.is_kept g.R.Records.failed g.R.Records.fates g.A.Application.has_applied (g.A.Application.meaning old.names) es old (shown c.loop-before.self))
    (take_all c.loop-before.before events (omega (arith, length_straight old.members c.args.member c.args.request.now, c.straight_events-events.ensures, c.loop-before-test.false)))
    c.loop-before.invariant.2

pub returns-clause-held : goal.returns-clause-held
returns-clause-held g c = c.loop-before.invariant.0

pub returns-clause-done : goal.returns-clause-done
returns-clause-done g c =
    let old = shown c.args.self.now in
    let events = straight_run old.members c.args.member c.args.request.now in
    subst (LeadsSmoothly {R = g.row.R.Denot} {A = g.row.A.Denot} g.R.Records.stands g.R.Records.is_kept g.A.Application.has_applied (g.A.Application.meaning old.names) old (shown c.loop-before.self))
    (take_all c.loop-before.before events (omega (arith, length_straight old.members c.args.member c.args.request.now, c.straight_events-events.ensures, c.loop-before-test.false)))
    c.loop-before.invariant.1
