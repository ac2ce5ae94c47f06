use Rattle.std.proofs.Common.{◌≡◌, ◌≤◌, ℕ, false, List}
use Rattle.paxq_local.specs.Answering.{has_answered}
use Rattle.paxq_local.specs.Asking.{Gives, most_tries}
use Rattle.paxq_local.specs.Members.{HoldsSaid}
use Rattle.paxq_local.specs.Told.{Brings}
use Rattle.paxq_local.proofs.Tries.{AreRounds}
use Rattle.paxq_local.proofs.client.Client.ask_all.Given as goal

abbrev pub invariant-loop-turn : goal.invariant-loop-turn
invariant-loop-turn g l = record {
  peers : l.self.peers.items ≡ l.initial.self.peers.items;
  count : l.self.asked ≡ l.initial.self.asked;
  floor : l.self.floor ≡ l.initial.self.floor;
  most : l.turn ≤ most_tries;
  fresh : l.turn ≡ 0 → (k : ℕ) → has_answered l.answers k ≡ false;
  brings : Brings g.W.Wire.has_brought l.initial.wire l.wire (λ brought. HoldsSaid g.D.PartialEq.eq l.initial.self.peers.items brought l.fn.members l.fn.asked.id l.answers);
  sent : Gives g.W.Wire.was_given l.initial.wire l.wire (λ went. (to : List ℕ) × AreRounds l.initial.self.peers.items l.fn.asked.bytes.items l.turn to went);
}
