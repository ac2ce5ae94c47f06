use Rattle.std.proofs.Common.{◌≡◌, drop, map}
use Rattle.sorted_tuples.specs.Abbreviations.{shared_bytes, shared_by_each}
use Rattle.sorted_tuples.proofs.tuples.shared_bytes.Given as goal

abbrev pub invariant-loop-other : goal.invariant-loop-other
invariant-loop-other l = shared_bytes l.tuple (map (λ t. t.now) l.others) ≡ shared_by_each l.text l.count (map (λ t. t.now) (drop l.other-index l.others))
