use Rattle.std.proofs.Common.{false, arith, refl, IfSome, Option, sym, subst, ap₂, ◌∙◌}
use Rattle.member.specs.Steps.{Hears}
use Rattle.node.specs.declared.draft.Draft.{Draft}
use Rattle.paxos.specs.Lists.{at}
use Rattle.paxos.specs.World.{Deliver}
use Rattle.paxos.specs.Sound.{Sound}
use Rattle.world.specs.Held.{shown}
use Rattle.world.specs.Posts.{packet_of, sent_in}
use Rattle.world.specs.Reached.{Follows, HappenedOver, HaveDone, Stays, Steps, store_at}
use Rattle.world.specs.Seats.{Did, IsPlanned, IsPlannedAt, MayStep, SkipsAt}
use Rattle.world.specs.declared.mail.Mail.{Mail}
use Rattle.world.proofs.Placing.{have_done, nothing_done}
use Rattle.world.proofs.Delivering.{skipped_delivery, unknown_delivery}
use Rattle.world.proofs.Given.{err_so, ok_so}
use Rattle.world.proofs.Happening.{delivers_step, step_so, steps_so}
use Rattle.world.proofs.Lifting.{joined, so}
use Rattle.world.proofs.Posted.{target_of}
use Rattle.world.proofs.state.State.deliver.Goals as goal

pub returns-in_default-clause-happened : goal.returns-in_default-clause-happened
returns-in_default-clause-happened g c =
    let self = c.args.self.now in
    let app = g.A.Application.meaning self.names in
    unknown_delivery {R = g.row.R.Denot} {A = g.row.A.Denot} g.R.Records.stands g.R.Records.is_kept g.A.Application.has_applied (HaveDone g.R.Records.failed g.R.Records.fates false self.seats.items self.seats.items) (nothing_done {R = g.row.R.Denot} {A = g.row.A.Denot} g.R.Records.failed g.R.Records.fates false self.seats.items self.seats.items (λ j. refl)) app self.members c.requires.held.most (shown self) c.args.number (c.to_member.ensures.none c.in_default.is)

pub returns-in_default-2-clause-happened : goal.returns-in_default-2-clause-happened
returns-in_default-2-clause-happened g c =
    let self = c.args.self.now in
    let app = g.A.Application.meaning self.names in
    let mid = c.hear.new.self in
    let d = c.in-Some.delivery in
    let p = packet_of self.group self.mail.messages.items d in
    let here = ap₂ (λ n (x : Mail). at (sent_in n x) c.args.number) c.hear.ensures.same.1 c.hear.ensures.same.3 ∙ c.in-Some.ensures.there.3 in
    joined {R = g.row.R.Denot} {A = g.row.A.Denot} {stands = g.R.Records.stands} {is_kept = g.R.Records.is_kept} {has_applied = g.A.Application.has_applied} {MayBe = Sound self.members} (HappenedOver g.R.Records.failed g.R.Records.fates self.seats.items mid.seats.items app (Deliver c.args.number)) (shown self) (shown mid) (shown mid)
    c.hear.ensures.stays
    (skipped_delivery {R = g.row.R.Denot} {A = g.row.A.Denot} g.R.Records.stands g.R.Records.is_kept g.A.Application.has_applied (HaveDone g.R.Records.failed g.R.Records.fates false self.seats.items mid.seats.items) (nothing_done {R = g.row.R.Denot} {A = g.row.A.Denot} g.R.Records.failed g.R.Records.fates false self.seats.items mid.seats.items c.hear.ensures.stores) app self.members c.requires.held.most (shown mid) c.args.number p here
    (λ e. omega (arith, e, c.in-Some.ensures.there.0, target_of self.group self.mail.messages.items d)) c.hear.ensures.held.seats c.hear.ensures.same.0
    (subst (λ m. SkipsAt g.A.Application.has_applied mid.seats.items m (Hears p)) (sym (target_of self.group self.mail.messages.items d)) (c.in_ok-draft.ensures.skipped c.in_default-2.is)))

pub returns-clause-happened : goal.returns-clause-happened
returns-clause-happened g c =
    let self = c.args.self.now in
    let mid = c.hear.new.self in
    let end = c.take.new.self in
    let d = c.in-Some.delivery in
    let p = packet_of self.group self.mail.messages.items d in
    let here = ap₂ (λ n (x : Mail). at (sent_in n x) c.args.number) c.hear.ensures.same.1 c.hear.ensures.same.3 ∙ c.in-Some.ensures.there.3 in
    let target = target_of self.group self.mail.messages.items d in
    let planned = subst (λ (o : Option Draft). IfSome o (λ x. IsPlannedAt {R = g.row.R.Denot} {A = g.row.A.Denot} g.A.Application.has_applied (g.A.Application.meaning self.names) mid.seats.items d.target (Hears p) x)) c.in-Some-2.is c.in_ok-draft.ensures.planned in
    ok_so c.take.result _ _ (λ taken.
    let app = g.A.Application.meaning self.names in
    joined {R = g.row.R.Denot} {A = g.row.A.Denot} {stands = g.R.Records.stands} {is_kept = g.R.Records.is_kept} {has_applied = g.A.Application.has_applied} {MayBe = Sound self.members} (HappenedOver g.R.Records.failed g.R.Records.fates self.seats.items end.seats.items app (Deliver c.args.number)) (shown self) (shown mid) (shown end)
    c.hear.ensures.stays
    (so (Steps g.A.Application.has_applied (shown mid) planned.0 d.target (MayStep (Did g.R.Records.failed g.R.Records.fates false (store_at mid.seats.items d.target) (store_at end.seats.items d.target)) app self.members d.target (Hears p))) (HappenedOver g.R.Records.failed g.R.Records.fates self.seats.items end.seats.items app (Deliver c.args.number)) (shown mid) (shown end)
    (λ v z sound step. delivers_step {R = g.row.R.Denot} {A = g.row.A.Denot} g.A.Application.has_applied (HaveDone g.R.Records.failed g.R.Records.fates false self.seats.items end.seats.items) app self.members (shown mid) planned.0 d.target (c.hear.ensures.held.size ∙ c.hear.ensures.same.0) c.args.number p here target v z
    (steps_so {R = g.row.R.Denot} {A = g.row.A.Denot} g.A.Application.has_applied _ _ (step_so _ _ (have_done {R = g.row.R.Denot} {A = g.row.A.Denot} g.R.Records.failed g.R.Records.fates false self.seats.items mid.seats.items end.seats.items d.target c.hear.ensures.stores c.take.ensures.others) app self.members d.target (Hears p)) (shown mid) planned.0 d.target v z step))
    (subst (λ n. Follows {R = g.row.R.Denot} {A = g.row.A.Denot} g.R.Records.stands g.R.Records.is_kept g.A.Application.has_applied (Sound n) (Steps g.A.Application.has_applied (shown mid) planned.0 d.target (MayStep (Did g.R.Records.failed g.R.Records.fates false (store_at mid.seats.items d.target) (store_at end.seats.items d.target)) app n d.target (Hears p))) (shown mid) (shown end)) c.hear.ensures.same.0
    (subst (λ ns. Follows {R = g.row.R.Denot} {A = g.row.A.Denot} g.R.Records.stands g.R.Records.is_kept g.A.Application.has_applied (Sound mid.members) (Steps g.A.Application.has_applied (shown mid) planned.0 d.target (MayStep (Did g.R.Records.failed g.R.Records.fates false (store_at mid.seats.items d.target) (store_at end.seats.items d.target)) (g.A.Application.meaning ns) mid.members d.target (Hears p))) (shown mid) (shown end)) c.hear.ensures.same.2
    (taken (Hears p) planned.0 planned.1 (subst (λ ns. IsPlanned {R = g.row.R.Denot} {A = g.row.A.Denot} g.A.Application.has_applied (g.A.Application.meaning ns) planned.0 (Hears p) c.in-Some-2.draft) (sym c.hear.ensures.same.2) planned.2)))))) c.take.ensures.taken

pub returns-clause-refused : goal.returns-clause-refused
returns-clause-refused g c =
    let self = c.args.self.now in
    err_so c.take.result _ _ (λ stays. joined {R = g.row.R.Denot} {A = g.row.A.Denot} {stands = g.R.Records.stands} {is_kept = g.R.Records.is_kept} {has_applied = g.A.Application.has_applied} {MayBe = Sound self.members} Stays (shown self) (shown c.hear.new.self) (shown c.take.new.self) c.hear.ensures.stays
    (subst (λ n. Follows {R = g.row.R.Denot} {A = g.row.A.Denot} g.R.Records.stands g.R.Records.is_kept g.A.Application.has_applied (Sound n) Stays (shown c.hear.new.self) (shown c.take.new.self)) c.hear.ensures.same.0 stays)) c.take.ensures.refused
