-- The pairs that are left end as all of them do.
use Rattle.std.proofs.Common.{◌≡◌, drop}
use Rattle.values.specs.Comparisons.{pair_compared, pair_work}
use Rattle.values.proofs.Pairs.{walk-each}
use Rattle.values.proofs.compare.compare_with_each.Given as goal

abbrev pub invariant-loop-other : goal.invariant-loop-other
invariant-loop-other l =
    walk-each (pair_compared l.op l.left) (pair_work l.left) l.right (drop l.other-index l.right) l.turns l.work ≡ walk-each (pair_compared l.op l.left) (pair_work l.left) l.right l.right l.initial.turns l.initial.work
