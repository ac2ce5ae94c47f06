use Rattle.std.proofs.Common.{◌≡◌, drop}
use Rattle.paxos.specs.Records.{vote_at}
use Rattle.proposer.proofs.view.entry_at.Given as goal

abbrev pub invariant-loop-entry : goal.invariant-loop-entry
invariant-loop-entry l = vote_at l.position (drop l.entry-index l.entries) ≡ vote_at l.position l.entries
