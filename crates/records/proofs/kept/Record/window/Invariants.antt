use Rattle.std.proofs.Common.{◌≡◌, ◌≤◌, ◌-◌, ◌++◌, length}
use Rattle.paxos.specs.Records.{since}
use Rattle.records.proofs.Votes.{rest_of, HasNext}
use Rattle.records.proofs.kept.Record.window.Given as goal

abbrev pub invariant-loop-next : goal.invariant-loop-next
invariant-loop-next l = record {
  votes : l.entries.items ++ rest_of l.next l.self.votes ≡ since l.from l.self.votes;
  there : HasNext l.next l.self.votes;
  few : length l.entries.items ≤ 8;
}

abbrev pub decreases-loop-next : goal.decreases-loop-next
decreases-loop-next l = 9 - length l.entries.items
