use Rattle.paxq_local.specs.Asking.{GivesNothing}
use Rattle.paxq_local.specs.Told.{Brings}
use Rattle.paxq_local.proofs.heard.listen_to_first.Given as goal

abbrev pub invariant-loop-datagram : goal.invariant-loop-datagram
invariant-loop-datagram g l = record {
  brings : Brings g.W.Wire.has_brought l.initial.wire l.wire (λ brought. Unit {0});
  given : GivesNothing g.W.Wire.was_given l.initial.wire l.wire;
}
