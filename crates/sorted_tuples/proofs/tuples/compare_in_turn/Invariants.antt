use Rattle.std.proofs.Common.{◌≡◌, drop}
use Rattle.sorted_tuples.specs.Keys.{ranked}
use Rattle.sorted_tuples.proofs.tuples.compare_in_turn.Given as goal

abbrev pub invariant-loop-key : goal.invariant-loop-key
invariant-loop-key l =
    (l.position ≡ l.key-index) × (ranked 0 l.keys l.left.keys l.right.keys ≡ ranked l.key-index (drop l.key-index l.keys) l.left.keys l.right.keys)
