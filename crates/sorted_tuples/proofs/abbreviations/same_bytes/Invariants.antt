use Rattle.std.proofs.Common.{◌≡◌, ◌+◌, drop}
use Rattle.sorted_tuples.specs.Abbreviations.{shared}
use Rattle.sorted_tuples.proofs.abbreviations.same_bytes.Given as goal

abbrev pub invariant-loop-at : goal.invariant-loop-at
invariant-loop-at l = shared l.left l.right ≡ l.at + shared (drop l.at l.left) (drop l.at l.right)
