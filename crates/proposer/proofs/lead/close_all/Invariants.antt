use Rattle.std.proofs.Common.{◌≡◌, ◌≤◌, ◌-◌, ◌++◌, length, take, drop}
use Rattle.std.specs.Vec.{vec_capacity}
use Rattle.paxos.specs.Proposing.{still_open}
use Rattle.proposer.specs.Beginning.{is_in}
use Rattle.proposer.proofs.lead.close_all.Given as goal

abbrev pub decreases-loop-index : goal.decreases-loop-index
decreases-loop-index l = length l.proposals.items - l.index

abbrev pub invariant-loop-index : goal.invariant-loop-index
invariant-loop-index l =
    (take l.index l.proposals.items ++ still_open (λ p. is_in p l.learnt) (drop l.index l.proposals.items) ≡ still_open (λ p. is_in p l.learnt) l.fn.proposals.items)
    × (length l.proposals.items ≤ length l.fn.proposals.items)
    × (vec_capacity l.fn.proposals ≤ vec_capacity l.proposals)
