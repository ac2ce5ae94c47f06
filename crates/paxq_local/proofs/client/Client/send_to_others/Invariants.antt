use Rattle.std.proofs.Common.{◌≤◌, ℕ, List, length}
use Rattle.wires.specs.Wires.{Carried}
use Rattle.paxq_local.specs.Asking.{Gives}
use Rattle.paxq_local.specs.Sent.{IsRound}
use Rattle.paxq_local.proofs.client.Client.send_to_others.Given as goal

abbrev pub invariant-loop-member : goal.invariant-loop-member
invariant-loop-member g l = record {
  brought : (ds : List (Carried g.row.D.Denot)) → g.W.Wire.has_brought l.initial.wire ds → g.W.Wire.has_brought l.wire ds;
  most : l.member ≤ length l.fn.self.peers.items;
  given : Gives g.W.Wire.was_given l.initial.wire l.wire (λ went. (to : List ℕ) × IsRound l.fn.self.peers.items l.fn.bytes l.fn.answers l.member to went);
}
