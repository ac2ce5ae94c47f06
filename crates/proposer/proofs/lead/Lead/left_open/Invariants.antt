use Rattle.std.proofs.Common.{◌≡◌, ◌≤◌, ◌+◌, drop, length}
use Rattle.paxos.specs.Proposing.{still_open}
use Rattle.proposer.specs.Beginning.{is_in}
use Rattle.proposer.proofs.lead.Lead.left_open.Given as goal

abbrev pub invariant-loop-proposal : goal.invariant-loop-proposal
invariant-loop-proposal l =
    (l.open_ones + length (still_open (λ p. is_in p l.learnt) (drop l.proposal-index l.proposal-items)) ≡ length (still_open (λ p. is_in p l.learnt) l.proposal-items)) × (l.open_ones ≤ l.proposal-index)
