use Rattle.std.proofs.Common.{◌≡◌, ℕ, ◌<◌, None, true}
use Rattle.sorted_tuples.specs.Keys.{column, is_of_one_type}
use Rattle.sorted_tuples.proofs.tuples.are_comparable.Given as goal

abbrev pub invariant-loop-position : goal.invariant-loop-position
invariant-loop-position l = (k : ℕ) → k < l.position → is_of_one_type None (column k l.tuples) ≡ true
