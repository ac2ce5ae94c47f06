use Rattle.std.proofs.Common.{◌≡◌, [], drop}
use Rattle.query_meaning.specs.Functions.{distinct}
use Rattle.query_calls.proofs.distinct.first_of_each.Given as goal

abbrev pub invariant-loop-value : goal.invariant-loop-value
invariant-loop-value l = distinct l.distinct (drop l.value-index l.fn.values) ≡ distinct [] l.fn.values
