use Rattle.std.proofs.Common.{◌≡◌, drop}
use Rattle.ballots.specs.Terms.{Request}
use Rattle.paxos.specs.Proposing.{has_open}
use Rattle.proposer.proofs.lead.Lead.has_open.Given as goal

abbrev pub invariant-loop-proposal : goal.invariant-loop-proposal
invariant-loop-proposal l = (q : Request) → q.client ≡ l.client → q.number ≡ l.number → has_open q (drop l.proposal-index l.proposal-items) ≡ has_open q l.proposal-items
