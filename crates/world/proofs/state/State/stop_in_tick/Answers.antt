use Rattle.std.proofs.Common.{false, sym, subst}
use Rattle.paxos.specs.Sound.{Sound}
use Rattle.world.specs.Held.{shown}
use Rattle.world.specs.Reached.{Follows, HappenedOver, HaveDone, is_cut, stop_in}
use Rattle.world.proofs.Placing.{nothing_done, seat_there}
use Rattle.world.proofs.Stopping.{tick_stop_happens}
use Rattle.world.proofs.state.State.stop_in_tick.Goals as goal

pub returns-clause-happened : goal.returns-clause-happened
returns-clause-happened g c =
    let self = c.args.self.now in
    let app = g.A.Application.meaning self.names in
    let number = c.args.number in
    let s = seat_there self number c.requires.held c.requires.least c.requires.most in
    subst (λ b. Follows {R = g.row.R.Denot} {A = g.row.A.Denot} g.R.Records.stands g.R.Records.is_kept g.A.Application.has_applied (Sound self.members) (HappenedOver g.R.Records.failed g.R.Records.fates self.seats.items c.stop.new.self.seats.items app (stop_in number c.args.tick b)) (shown self) (shown c.stop.new.self)) (sym c.if-kept.false)
    (tick_stop_happens {R = g.row.R.Denot} {A = g.row.A.Denot} g.R.Records.stands g.R.Records.is_kept g.A.Application.has_applied (HaveDone g.R.Records.failed g.R.Records.fates (is_cut (stop_in number c.args.tick false)) self.seats.items c.stop.new.self.seats.items) (nothing_done {R = g.row.R.Denot} {A = g.row.A.Denot} g.R.Records.failed g.R.Records.fates (is_cut (stop_in number c.args.tick false)) self.seats.items c.stop.new.self.seats.items c.stop.ensures.stores) app self c.stop.new.self number s.0 s.1 c.requires.held (c.stop.ensures.stopped s.0 s.1) (c.stop.ensures.none s.0 s.1) c.args.tick c.requires.writes)
