use Rattle.std.proofs.Common.{ℕ, List, ◌++◌, take}
use Rattle.server_steps.specs.Hold.{held_by}
use Rattle.wires.specs.Wires.{Carried}
use Rattle.server_steps.proofs.hold.give_all.Given as goal

abbrev pub invariant-loop-one : goal.invariant-loop-one
invariant-loop-one g l =
    ((ds : List (Carried g.row.D.Denot)) → g.W.Wire.was_given l.fn.wire ds → g.W.Wire.was_given l.wire (ds ++ held_by l.place (take l.one-index l.held)))
    × ((ds : List (Carried g.row.D.Denot)) → g.W.Wire.has_brought l.fn.wire ds → g.W.Wire.has_brought l.wire ds)
    × ((vain failures : ℕ) → g.W.Wire.has_waited l.fn.wire vain failures → g.W.Wire.has_waited l.wire vain failures)
