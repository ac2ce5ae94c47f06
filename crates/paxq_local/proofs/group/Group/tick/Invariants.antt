use Rattle.std.proofs.Common.{List}
use Rattle.wires.specs.Wires.{Carried}
use Rattle.paxq_local.specs.Asking.{GivesNothing}
use Rattle.paxq_local.proofs.group.Group.tick.Given as goal

abbrev pub invariant-loop-member : goal.invariant-loop-member
invariant-loop-member g l = record {
  brought : (ds : List (Carried g.row.D.Denot)) → g.W.Wire.has_brought l.initial.wire ds → g.W.Wire.has_brought l.wire ds;
  given : GivesNothing g.W.Wire.was_given l.initial.wire l.wire;
}
