use Rattle.std.proofs.Common.{◌≡◌}
use Rattle.query_meaning.specs.Functions.{items_of}
use Rattle.query_calls.proofs.sequences.sequence_of.Given as goal

abbrev pub invariant-loop-value : goal.invariant-loop-value
invariant-loop-value l = l.items.items ≡ items_of l.yielded
