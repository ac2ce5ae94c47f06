use Rattle.std.proofs.Common.{◌-◌, length}
use Rattle.node.specs.Nodes.{RunsAs}
use Rattle.paxos.specs.Step.{Running}
use Rattle.published.specs.Stores.{Keeps, handed_on}
use Rattle.readers.specs.Counting.{AreFirst}
use Rattle.readers.proofs.handing.hand_over.Given as goal

abbrev pub invariant-loop-store : goal.invariant-loop-store
invariant-loop-store g l =
    Keeps l.fn.store l.store
    × ((u : Running) → RunsAs {R = g.row.R.Denot} g.A.Application.has_applied u l.fn.node → AreFirst l.fn.node.setup.members u (handed_on l.fn.store) → AreFirst l.fn.node.setup.members u (handed_on l.store))

abbrev pub decreases-loop-store : goal.decreases-loop-store
decreases-loop-store g l = l.applied - length (handed_on l.store)
