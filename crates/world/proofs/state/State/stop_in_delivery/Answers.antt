use Rattle.std.proofs.Common.{true, refl, sym, subst}
use Rattle.paxos.specs.Sound.{Sound}
use Rattle.paxos.specs.World.{StopInDeliver}
use Rattle.world.specs.Held.{shown}
use Rattle.world.specs.Posts.{packet_of}
use Rattle.world.specs.Reached.{Follows, HappenedOver, HaveDone}
use Rattle.world.proofs.Delivering.{unknown_stop}
use Rattle.world.proofs.Placing.{nothing_done, seat_there}
use Rattle.world.proofs.Posted.{target_of}
use Rattle.world.proofs.Stopping.{delivery_stop_happens}
use Rattle.world.proofs.state.State.stop_in_delivery.Goals as goal

pub returns-in_default-clause-happened : goal.returns-in_default-clause-happened
returns-in_default-clause-happened g c =
    let self = c.args.self.now in
    let app = g.A.Application.meaning self.names in
    unknown_stop {R = g.row.R.Denot} {A = g.row.A.Denot} g.R.Records.stands g.R.Records.is_kept g.A.Application.has_applied (HaveDone g.R.Records.failed g.R.Records.fates true self.seats.items self.seats.items) (nothing_done {R = g.row.R.Denot} {A = g.row.A.Denot} g.R.Records.failed g.R.Records.fates true self.seats.items self.seats.items (λ j. refl)) app self.members c.requires.held.most (shown self) c.args.number c.args.kept (c.to_member.ensures.none c.in_default.is)

pub returns-clause-happened : goal.returns-clause-happened
returns-clause-happened g c =
    let self = c.args.self.now in
    let app = g.A.Application.meaning self.names in
    let d = c.in-Some.delivery in
    let p = packet_of self.group self.mail.messages.items d in
    let s = seat_there self d.target c.requires.held c.in-Some.ensures.there.0 c.in-Some.ensures.there.1 in
    subst (λ b. Follows {R = g.row.R.Denot} {A = g.row.A.Denot} g.R.Records.stands g.R.Records.is_kept g.A.Application.has_applied (Sound self.members) (HappenedOver g.R.Records.failed g.R.Records.fates self.seats.items c.stop.new.self.seats.items app (StopInDeliver c.args.number b)) (shown self) (shown c.stop.new.self)) (sym c.if-kept.false)
    (delivery_stop_happens {R = g.row.R.Denot} {A = g.row.A.Denot} g.R.Records.stands g.R.Records.is_kept g.A.Application.has_applied (HaveDone g.R.Records.failed g.R.Records.fates true self.seats.items c.stop.new.self.seats.items) (nothing_done {R = g.row.R.Denot} {A = g.row.A.Denot} g.R.Records.failed g.R.Records.fates true self.seats.items c.stop.new.self.seats.items c.stop.ensures.stores) app self c.stop.new.self d.target s.0 s.1 c.requires.held (c.stop.ensures.stopped s.0 s.1) (c.stop.ensures.none s.0 s.1)
    c.args.number p c.in-Some.ensures.there.3 (target_of self.group self.mail.messages.items d))
