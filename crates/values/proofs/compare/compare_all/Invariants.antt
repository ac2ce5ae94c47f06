-- The pairs that are left end as all of them do.
use Rattle.std.proofs.Common.{◌≡◌, drop}
use Rattle.values.specs.Comparisons.{pair_compared, pair_work}
use Rattle.values.proofs.Pairs.{walk-rows}
use Rattle.values.proofs.compare.compare_all.Given as goal

abbrev pub invariant-loop-value : goal.invariant-loop-value
invariant-loop-value l = walk-rows (pair_compared l.op) pair_work l.right (drop l.value-index l.left) l.turns l.work ≡ walk-rows (pair_compared l.op) pair_work l.right l.left l.initial.turns l.initial.work
