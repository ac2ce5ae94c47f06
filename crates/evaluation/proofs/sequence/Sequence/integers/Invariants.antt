use Rattle.std.proofs.Common.{◌≡◌, map, pos, ◌+ℤ◌}
use Rattle.std.specs.List.{range_with_len}
use Rattle.values.specs.declared.atom.Atom.TheVariants as atom
use Rattle.values.specs.declared.atom.Item.TheVariants as item
use Rattle.evaluation.proofs.sequence.Sequence.integers.Given as goal

abbrev pub invariant-loop-offset : goal.invariant-loop-offset
invariant-loop-offset l = l.items.items ≡ map (λ k. item.Atomic (atom.Integer (l.fn.first +ℤ pos k))) (range_with_len 0 l.offset)
