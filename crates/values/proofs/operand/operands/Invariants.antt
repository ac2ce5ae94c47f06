-- The values so far have been read.
use Rattle.std.proofs.Common.{◌≡◌, take}
use Rattle.values.proofs.operand.operands.Given as goal

abbrev pub invariant-loop-atom : goal.invariant-loop-atom
invariant-loop-atom l = l.read.items ≡ take l.atom-index l.atoms
