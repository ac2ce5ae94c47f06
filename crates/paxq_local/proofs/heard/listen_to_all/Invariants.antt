use Rattle.std.proofs.Common.{ℕ, List, ◌++◌}
use Rattle.wires.specs.Wires.{Carried}
use Rattle.paxq_local.specs.Asking.{GivesNothing}
use Rattle.paxq_local.specs.Members.{HoldsSaid}
use Rattle.paxq_local.specs.Told.{Brings}
use Rattle.paxq_local.proofs.heard.listen_to_all.Given as goal

abbrev pub invariant-loop-datagram : goal.invariant-loop-datagram
invariant-loop-datagram g l = record {
  brings : Brings g.W.Wire.has_brought l.initial.wire l.wire (λ brought. (members : ℕ) (before : List (Carried g.row.D.Denot)) → HoldsSaid g.D.PartialEq.eq l.peers before members l.id l.initial.answers
      → HoldsSaid g.D.PartialEq.eq l.peers (before ++ brought) members l.id l.answers);
  given : GivesNothing g.W.Wire.was_given l.initial.wire l.wire;
}
