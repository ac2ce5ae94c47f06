use Rattle.std.proofs.Common.{List}
use Rattle.paxq_local.specs.Told.{Brings}
use Rattle.wires.specs.Wires.{Carried}
use Rattle.paxq_local.proofs.send.listen.Given as goal

abbrev pub invariant-loop-datagram : goal.invariant-loop-datagram
invariant-loop-datagram g l = Brings g.W.Wire.has_brought l.initial.wire l.wire (λ brought. Unit {0}) × ((ds : List (Carried _)) → g.W.Wire.was_given l.initial.wire ds → g.W.Wire.was_given l.wire ds)
