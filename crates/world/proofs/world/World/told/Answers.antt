use Rattle.std.proofs.Common.{◌≤◌, subst}
use Rattle.ballots.specs.Ballot.{most_members}
use Rattle.world.specs.Shown.{World, AreSeats}
use Rattle.world.proofs.Agreeing.{agrees}
use Rattle.world.proofs.Alike.{are_alike}
use Rattle.world.proofs.world.World.told.Goals as goal

pub returns-clause-agreed : goal.returns-clause-agreed
returns-clause-agreed g c = agrees {R = g.row.R.Denot} {A = g.row.A.Denot} g.R.Records.stands g.A.Application.has_applied c.args.self.now

pub returns-clause-alike : goal.returns-clause-alike
returns-clause-alike g c =
    let held = c.self.invariant in
    are_alike {R = g.row.R.Denot} {A = g.row.A.Denot} g.R.Records.stands g.A.Application.has_applied (g.A.Application.meaning c.args.self.now.names) c.args.self.now
    (subst (λ (w : World g.row.R.Denot g.row.A.Denot). AreSeats w) c.self.view_is held.seats) (subst (λ (w : World g.row.R.Denot g.row.A.Denot). w.members ≤ most_members) c.self.view_is held.most)
