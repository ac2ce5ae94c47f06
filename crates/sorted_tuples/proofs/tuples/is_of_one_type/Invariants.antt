use Rattle.std.proofs.Common.{◌≡◌, None, drop}
use Rattle.std.specs.Option.{option_copied}
use Rattle.sorted_tuples.specs.Keys.{column, is_of_one_type}
use Rattle.sorted_tuples.proofs.tuples.is_of_one_type.Given as goal

abbrev pub invariant-loop-tuple : goal.invariant-loop-tuple
invariant-loop-tuple l =
    is_of_one_type None (column l.position l.tuples) ≡ is_of_one_type (option_copied l.first) (column l.position (drop l.tuple-index l.tuples))
