use Rattle.std.proofs.Common.{◌≤◌, subst}
use Rattle.ballots.specs.Ballot.{most_members}
use Rattle.world.specs.Shown.{World, AreSeats}
use Rattle.world.proofs.world.World.facts.Goals as goal

pub returns-clause-few : goal.returns-clause-few
returns-clause-few g c = subst (λ (x : World g.row.R.Denot g.row.A.Denot). x.members ≤ most_members) c.self.view_is c.self.invariant.most

pub returns-clause-seats : goal.returns-clause-seats
returns-clause-seats g c = subst (λ (x : World g.row.R.Denot g.row.A.Denot). AreSeats x) c.self.view_is c.self.invariant.seats
