use Rattle.std.proofs.Common.{false}
use Rattle.world.specs.Reached.{HaveDone}
use Rattle.world.proofs.Placing.{nothing_done, seat_there}
use Rattle.world.proofs.Stopping.{stop_happens}
use Rattle.world.proofs.state.State.stop_at.Goals as goal

pub returns-clause-happened : goal.returns-clause-happened
returns-clause-happened g c =
    let self = c.args.self.now in
    let app = g.A.Application.meaning self.names in
    let number = c.args.number in
    let s = seat_there self number c.requires.held c.requires.least c.requires.most in
    stop_happens {R = g.row.R.Denot} {A = g.row.A.Denot} g.R.Records.stands g.R.Records.is_kept g.A.Application.has_applied (HaveDone g.R.Records.failed g.R.Records.fates false self.seats.items c.stop.new.self.seats.items) (nothing_done {R = g.row.R.Denot} {A = g.row.A.Denot} g.R.Records.failed g.R.Records.fates false self.seats.items c.stop.new.self.seats.items c.stop.ensures.stores) app self c.stop.new.self number s.0 s.1 c.requires.held (c.stop.ensures.stopped s.0 s.1) (c.stop.ensures.none s.0 s.1)
