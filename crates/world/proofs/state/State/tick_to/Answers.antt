use Rattle.std.proofs.Common.{◌≡◌, false, IfSome, Option, Some, sym, subst, ap, ◌∙◌}
use Rattle.node.specs.declared.draft.Draft.{Draft}
use Rattle.ballots.specs.Terms.{Setup}
use Rattle.node.specs.Nodes.{Node}
use Rattle.paxos.specs.Sound.{Sound}
use Rattle.world.specs.Held.{shown}
use Rattle.events.specs.Events.{event_of}
use Rattle.world.specs.Reached.{Follows, HappenedOver, HaveDone, Stays, Steps, is_cut, store_at}
use Rattle.member.specs.Steps.{ticked}
use Rattle.world.specs.Seats.{Did, IsPlanned, IsPlannedAt, MayStep}
use Rattle.events.specs.declared.event.Event.TheVariants as event
use Rattle.world.proofs.Happening.{step_so, steps_so}
use Rattle.world.proofs.Placing.{have_done, nothing_done}
use Rattle.world.proofs.Given.{err_so, ok_so}
use Rattle.world.proofs.Lifting.{joined, so}
use Rattle.world.proofs.Resting.{skipped_tick, tick_cut, tick_step}
use Rattle.world.proofs.state.State.tick_to.Goals as goal

pub returns-in_default-clause-happened : goal.returns-in_default-clause-happened
returns-in_default-clause-happened g c =
    let self = c.args.self.now in
    let app = g.A.Application.meaning self.names in
    let mid = c.tick.new.self in
    let skips = c.in_ok-draft.ensures.skipped c.in_default.is in
    joined {R = g.row.R.Denot} {A = g.row.A.Denot} {stands = g.R.Records.stands} {is_kept = g.R.Records.is_kept} {has_applied = g.A.Application.has_applied} {MayBe = Sound self.members} (HappenedOver g.R.Records.failed g.R.Records.fates self.seats.items mid.seats.items app (event_of (event.Tick c.args.number c.args.tick))) (shown self) (shown mid) (shown mid)
    c.tick.ensures.stays
    (skipped_tick {R = g.row.R.Denot} {A = g.row.A.Denot} g.R.Records.stands g.R.Records.is_kept g.A.Application.has_applied (HaveDone g.R.Records.failed g.R.Records.fates (is_cut (event_of (event.Tick c.args.number c.args.tick))) self.seats.items mid.seats.items) (nothing_done {R = g.row.R.Denot} {A = g.row.A.Denot} g.R.Records.failed g.R.Records.fates (is_cut (event_of (event.Tick c.args.number c.args.tick))) self.seats.items mid.seats.items c.tick.ensures.stores) app self.members c.requires.held.most (shown mid) c.args.number skips.0 skips.1 c.args.tick
    (λ x q. ap (λ (t : Setup). t.members) ((c.tick.ensures.held.seats c.args.number skips.0 skips.1).running x q).0 ∙ c.tick.ensures.same.0) skips.2)

pub returns-clause-happened : goal.returns-clause-happened
returns-clause-happened g c =
    let self = c.args.self.now in
    let mid = c.tick.new.self in
    let end = c.take.new.self in
    let number = c.args.number in
    let i = ticked c.args.tick in
    let planned = subst (λ (o : Option Draft). IfSome o (λ x. IsPlannedAt {R = g.row.R.Denot} {A = g.row.A.Denot} g.A.Application.has_applied (g.A.Application.meaning self.names) mid.seats.items number i x)) c.in-Some.is c.in_ok-draft.ensures.planned in
    let many = λ (x : Node g.row.R.Denot g.row.A.Denot) (q : planned.0.node ≡ Some x). ap (λ (t : Setup). t.members) ((c.tick.ensures.held.seats number planned.0 planned.1).running x q).0 ∙ c.tick.ensures.same.0 in
    ok_so c.take.result _ _ (λ taken.
    let app = g.A.Application.meaning self.names in
    joined {R = g.row.R.Denot} {A = g.row.A.Denot} {stands = g.R.Records.stands} {is_kept = g.R.Records.is_kept} {has_applied = g.A.Application.has_applied} {MayBe = Sound self.members} (HappenedOver g.R.Records.failed g.R.Records.fates self.seats.items end.seats.items app (event_of (event.Tick number c.args.tick))) (shown self) (shown mid) (shown end)
    c.tick.ensures.stays
    (so (Steps g.A.Application.has_applied (shown mid) planned.0 number (MayStep (Did g.R.Records.failed g.R.Records.fates false (store_at mid.seats.items number) (store_at end.seats.items number)) app self.members number i)) (HappenedOver g.R.Records.failed g.R.Records.fates self.seats.items end.seats.items app (event_of (event.Tick number c.args.tick))) (shown mid) (shown end)
    (λ v z sound step. let e = event_of (event.Tick number c.args.tick) in
    tick_step {R = g.row.R.Denot} {A = g.row.A.Denot} g.A.Application.has_applied (HaveDone g.R.Records.failed g.R.Records.fates (is_cut e) self.seats.items end.seats.items) app self.members (shown mid) number planned.0 c.args.tick c.in-Some.draft
    (c.tick.ensures.held.size ∙ c.tick.ensures.same.0) many planned.2 v z
    (steps_so {R = g.row.R.Denot} {A = g.row.A.Denot} g.A.Application.has_applied _ _ (step_so _ _ (λ x f d. have_done {R = g.row.R.Denot} {A = g.row.A.Denot} g.R.Records.failed g.R.Records.fates (is_cut e) self.seats.items mid.seats.items end.seats.items number c.tick.ensures.stores c.take.ensures.others x f
    (subst (λ b. Did g.R.Records.failed g.R.Records.fates b (store_at mid.seats.items number) (store_at end.seats.items number) x f) (sym (tick_cut number c.args.tick)) d)) app self.members number i) (shown mid) planned.0 number v z step))
    (subst (λ n. Follows {R = g.row.R.Denot} {A = g.row.A.Denot} g.R.Records.stands g.R.Records.is_kept g.A.Application.has_applied (Sound n) (Steps g.A.Application.has_applied (shown mid) planned.0 number (MayStep (Did g.R.Records.failed g.R.Records.fates false (store_at mid.seats.items number) (store_at end.seats.items number)) app n number i)) (shown mid) (shown end)) c.tick.ensures.same.0
    (subst (λ ns. Follows {R = g.row.R.Denot} {A = g.row.A.Denot} g.R.Records.stands g.R.Records.is_kept g.A.Application.has_applied (Sound mid.members) (Steps g.A.Application.has_applied (shown mid) planned.0 number (MayStep (Did g.R.Records.failed g.R.Records.fates false (store_at mid.seats.items number) (store_at end.seats.items number)) (g.A.Application.meaning ns) mid.members number i)) (shown mid) (shown end)) c.tick.ensures.same.2
    (taken i planned.0 planned.1 (subst (λ ns. IsPlanned {R = g.row.R.Denot} {A = g.row.A.Denot} g.A.Application.has_applied (g.A.Application.meaning ns) planned.0 i c.in-Some.draft) (sym c.tick.ensures.same.2) planned.2)))))) c.take.ensures.taken

pub returns-clause-refused : goal.returns-clause-refused
returns-clause-refused g c =
    let self = c.args.self.now in
    err_so c.take.result _ _ (λ stays. joined {R = g.row.R.Denot} {A = g.row.A.Denot} {stands = g.R.Records.stands} {is_kept = g.R.Records.is_kept} {has_applied = g.A.Application.has_applied} {MayBe = Sound self.members} Stays (shown self) (shown c.tick.new.self) (shown c.take.new.self) c.tick.ensures.stays
    (subst (λ n. Follows {R = g.row.R.Denot} {A = g.row.A.Denot} g.R.Records.stands g.R.Records.is_kept g.A.Application.has_applied (Sound n) Stays (shown c.tick.new.self) (shown c.take.new.self)) c.tick.ensures.same.0 stays)) c.take.ensures.refused
