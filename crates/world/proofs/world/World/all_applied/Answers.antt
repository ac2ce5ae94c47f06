use Rattle.std.proofs.Common.{ℕ, subst}
use Rattle.paxos.specs.Records.{Record}
use Rattle.paxos.specs.Smooth.{AllApplied}
use Rattle.paxos.specs.World.{World as Whole}
use Rattle.world.specs.Runs.{OneIsBehind}
use Rattle.world.specs.Shown.{World, Shows}
use Rattle.world.proofs.Reaching.{all_applied}
use Rattle.world.proofs.world.World.all_applied.Goals as goal

pub returns-clause-all : goal.returns-clause-all
returns-clause-all g c = λ q.
    let held = c.self.invariant in
    subst (λ (w : World g.row.R.Denot g.row.A.Denot). (kept : ℕ → Record) (v : Whole) → Shows {R = g.row.R.Denot} {A = g.row.A.Denot} g.A.Application.has_applied w kept v → AllApplied v) c.self.view_is
    (all_applied {R = g.row.R.Denot} {A = g.row.A.Denot} g.A.Application.has_applied _ held.size held.seats (c.all_applied.ensures.all q))

pub returns-clause-one : goal.returns-clause-one
returns-clause-one g c = λ q. subst (λ (w : World g.row.R.Denot g.row.A.Denot). OneIsBehind g.A.Application.has_applied w) c.self.view_is (c.all_applied.ensures.one q)
