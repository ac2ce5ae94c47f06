use Rattle.std.proofs.Common.{◌≡◌, ◌≤◌, replicate}
use Rattle.paxq_local.specs.Asking.{Gives, most_tries}
use Rattle.paxq_local.specs.Sent.{sent_to}
use Rattle.paxq_local.specs.Told.{Brings}
use Rattle.paxq_local.proofs.client.Client.ask_one.Given as goal

abbrev pub invariant-loop-turn : goal.invariant-loop-turn
invariant-loop-turn g l = record {
  peers : l.self.peers.items ≡ l.initial.self.peers.items;
  count : l.self.asked ≡ l.initial.self.asked;
  floor : l.self.floor ≡ l.initial.self.floor;
  most : l.turn ≤ most_tries;
  brings : Brings g.W.Wire.has_brought l.initial.wire l.wire (λ brought. Unit {0});
  sent : Gives g.W.Wire.was_given l.initial.wire l.wire (λ went. went ≡ sent_to l.initial.self.peers.items l.fn.asked.bytes.items (replicate l.turn 0));
}
