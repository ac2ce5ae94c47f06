use Rattle.std.proofs.Common.{◌≡◌, length}
use Rattle.paxq_local.proofs.Both.{Both}
use Rattle.paxq_local.proofs.Lines.{Going}
use Rattle.paxq_local.proofs.local.play.Given as goal

abbrev pub invariant-loop-command : goal.invariant-loop-command
invariant-loop-command g l = record {
  peers : l.client.peers.items ≡ l.initial.client.peers.items;
  both : Both g.W.Wire.has_brought g.W.Wire.was_given l.initial.wire l.wire (λ came went.
      Going g.W.Address.PartialEq.eq l.initial.client.peers.items l.fn.members l.initial.client.asked l.initial.client.floor l.initial.script.commands l.client.asked l.client.floor l.script.commands came went
      (g.O.Write.contents l.initial.output) (g.O.Write.contents l.output));
}

abbrev pub decreases-loop-command : goal.decreases-loop-command
decreases-loop-command g l = length l.script.commands
