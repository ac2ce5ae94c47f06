use Rattle.std.proofs.Common.{◌≡◌}
use Rattle.node.specs.Nodes.{RunsAs}
use Rattle.paxos.specs.Knowledge.{news, values_to}
use Rattle.paxos.specs.Step.{Running}
use Rattle.readers.proofs.opening.copies_of.Given as goal

abbrev pub invariant-loop-before : goal.invariant-loop-before
invariant-loop-before g l =
    (u : Running) → RunsAs {R = g.row.R.Denot} g.A.Application.has_applied u l.fn.node → l.copies ≡ values_to l.fn.node.setup.members (news u.heard) l.before
