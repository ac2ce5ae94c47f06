use Rattle.world.specs.Seats.{IsAny}
use Rattle.world.proofs.Given.{some_there}
use Rattle.world.proofs.Settling.{stops}
use Rattle.world.proofs.seat.Seat.stop.Goals as goal

pub returns-clause-stopped : goal.returns-clause-stopped
returns-clause-stopped g c = λ there.
    let x = some_there c.args.self.now.node there in
    let left = c.empty.ensures.left x.0 x.1 in
    stops {R = g.row.R.Denot} {A = g.row.A.Denot} g.R.Records.stands g.R.Records.is_kept g.A.Application.has_applied IsAny c.args.self.now c.empty.new.self x.0 (x.0.setup, x.0.member.acceptor.records)
    x.1 left.0 left.1 (λ k. k) (c.empty.ensures.stands x.0 x.1 (c.requires.runs x.0 x.1))
