use Rattle.std.proofs.Common.{true, IfSome, Option, sym, subst, ◌∙◌}
use Rattle.member.specs.Steps.{ticked}
use Rattle.node.specs.declared.draft.Draft.{Draft}
use Rattle.paxos.specs.Sound.{Sound}
use Rattle.world.specs.Held.{shown}
use Rattle.world.specs.Reached.{Follows, HappenedOver, HaveDone, Stays, Steps, is_cut, stop_in, store_at}
use Rattle.world.specs.Seats.{Did, IsPlanned, IsPlannedAt, MayStopIn}
use Rattle.world.proofs.Given.{err_so, ok_so}
use Rattle.world.proofs.Happening.{steps_so, stop_so, stops_in_tick}
use Rattle.world.proofs.Lifting.{joined, so}
use Rattle.world.proofs.Placing.{have_done, nothing_done}
use Rattle.world.proofs.Resting.{stop_cut}
use Rattle.world.proofs.Stopping.{skipped_stop_happens}
use Rattle.world.proofs.state.State.stop_ticking.Goals as goal

pub returns-in_default-clause-happened : goal.returns-in_default-clause-happened
returns-in_default-clause-happened g c =
    let self = c.args.self.now in
    let app = g.A.Application.meaning self.names in
    let mid = c.tick.new.self in
    let end = c.stop.new.self in
    let number = c.args.number in
    let s = c.in_ok-draft.ensures.skipped c.in_default.is in
    joined {R = g.row.R.Denot} {A = g.row.A.Denot} {stands = g.R.Records.stands} {is_kept = g.R.Records.is_kept} {has_applied = g.A.Application.has_applied} {MayBe = Sound self.members} _ (shown self) (shown mid) (shown end) c.tick.ensures.stays
    (subst (λ n. Follows {R = g.row.R.Denot} {A = g.row.A.Denot} g.R.Records.stands g.R.Records.is_kept g.A.Application.has_applied (Sound n) (HappenedOver g.R.Records.failed g.R.Records.fates self.seats.items end.seats.items app (stop_in number c.args.tick true)) (shown mid) (shown end)) c.tick.ensures.same.0
    (skipped_stop_happens {R = g.row.R.Denot} {A = g.row.A.Denot} g.R.Records.stands g.R.Records.is_kept g.A.Application.has_applied (HaveDone g.R.Records.failed g.R.Records.fates (is_cut (stop_in number c.args.tick true)) self.seats.items end.seats.items) (nothing_done {R = g.row.R.Denot} {A = g.row.A.Denot} g.R.Records.failed g.R.Records.fates (is_cut (stop_in number c.args.tick true)) self.seats.items end.seats.items (λ j. c.stop.ensures.stores j ∙ c.tick.ensures.stores j)) app mid end number s.0 s.1 c.tick.ensures.held (c.stop.ensures.stopped s.0 s.1) (c.stop.ensures.none s.0 s.1) c.args.tick c.requires.writes s.2))

pub returns-clause-happened : goal.returns-clause-happened
returns-clause-happened g c =
    let self = c.args.self.now in
    let mid = c.tick.new.self in
    let end = c.stop_in.new.self in
    let number = c.args.number in
    let planned = subst (λ (o : Option Draft). IfSome o (λ x. IsPlannedAt {R = g.row.R.Denot} {A = g.row.A.Denot} g.A.Application.has_applied (g.A.Application.meaning self.names) mid.seats.items number (ticked c.args.tick) x)) c.in-Some.is c.in_ok-draft.ensures.planned in
    ok_so c.stop_in.result _ _ (λ stopped.
    let app = g.A.Application.meaning self.names in
    joined {R = g.row.R.Denot} {A = g.row.A.Denot} {stands = g.R.Records.stands} {is_kept = g.R.Records.is_kept} {has_applied = g.A.Application.has_applied} {MayBe = Sound self.members} (HappenedOver g.R.Records.failed g.R.Records.fates self.seats.items end.seats.items app (stop_in number c.args.tick true)) (shown self) (shown mid) (shown end) c.tick.ensures.stays
    (so (Steps g.A.Application.has_applied (shown mid) planned.0 number (MayStopIn (Did g.R.Records.failed g.R.Records.fates true (store_at mid.seats.items number) (store_at end.seats.items number)) app self.members number (ticked c.args.tick) true)) (HappenedOver g.R.Records.failed g.R.Records.fates self.seats.items end.seats.items app (stop_in number c.args.tick true)) (shown mid) (shown end)
    (λ v z sound step. stops_in_tick {R = g.row.R.Denot} {A = g.row.A.Denot} g.A.Application.has_applied (HaveDone g.R.Records.failed g.R.Records.fates (is_cut (stop_in number c.args.tick true)) self.seats.items end.seats.items) app self.members (shown mid) planned.0 number (c.tick.ensures.held.size ∙ c.tick.ensures.same.0) c.args.tick c.requires.writes v z
    (steps_so {R = g.row.R.Denot} {A = g.row.A.Denot} g.A.Application.has_applied _ _ (stop_so _ _ (λ x f d. have_done {R = g.row.R.Denot} {A = g.row.A.Denot} g.R.Records.failed g.R.Records.fates (is_cut (stop_in number c.args.tick true)) self.seats.items mid.seats.items end.seats.items number c.tick.ensures.stores c.stop_in.ensures.others x f
    (subst (λ b. Did g.R.Records.failed g.R.Records.fates b (store_at mid.seats.items number) (store_at end.seats.items number) x f) (sym (stop_cut number c.args.tick true c.requires.writes)) d)) app self.members number (ticked c.args.tick) true) (shown mid) planned.0 number v z step))
    (subst (λ n. Follows {R = g.row.R.Denot} {A = g.row.A.Denot} g.R.Records.stands g.R.Records.is_kept g.A.Application.has_applied (Sound n) (Steps g.A.Application.has_applied (shown mid) planned.0 number (MayStopIn (Did g.R.Records.failed g.R.Records.fates true (store_at mid.seats.items number) (store_at end.seats.items number)) app n number (ticked c.args.tick) true)) (shown mid) (shown end)) c.tick.ensures.same.0
    (subst (λ ns. Follows {R = g.row.R.Denot} {A = g.row.A.Denot} g.R.Records.stands g.R.Records.is_kept g.A.Application.has_applied (Sound mid.members) (Steps g.A.Application.has_applied (shown mid) planned.0 number (MayStopIn (Did g.R.Records.failed g.R.Records.fates true (store_at mid.seats.items number) (store_at end.seats.items number)) (g.A.Application.meaning ns) mid.members number (ticked c.args.tick) true)) (shown mid) (shown end)) c.tick.ensures.same.2
    (stopped (ticked c.args.tick) planned.0 planned.1 (subst (λ ns. IsPlanned {R = g.row.R.Denot} {A = g.row.A.Denot} g.A.Application.has_applied (g.A.Application.meaning ns) planned.0 (ticked c.args.tick) c.in-Some.draft) (sym c.tick.ensures.same.2) planned.2)))))) c.stop_in.ensures.stopped

pub returns-clause-refused : goal.returns-clause-refused
returns-clause-refused g c =
    let self = c.args.self.now in
    err_so c.stop_in.result _ _ (λ stays. joined {R = g.row.R.Denot} {A = g.row.A.Denot} {stands = g.R.Records.stands} {is_kept = g.R.Records.is_kept} {has_applied = g.A.Application.has_applied} {MayBe = Sound self.members} Stays (shown self) (shown c.tick.new.self) (shown c.stop_in.new.self) c.tick.ensures.stays
    (subst (λ n. Follows {R = g.row.R.Denot} {A = g.row.A.Denot} g.R.Records.stands g.R.Records.is_kept g.A.Application.has_applied (Sound n) Stays (shown c.tick.new.self) (shown c.stop_in.new.self)) c.tick.ensures.same.0 stays)) c.stop_in.ensures.refused
