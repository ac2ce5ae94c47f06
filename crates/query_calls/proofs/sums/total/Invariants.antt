use Rattle.std.proofs.Common.{pos}
use Rattle.query_meaning.specs.Functions.{and_addend}
use Rattle.query_meaning.specs.Running.{Run}
use Rattle.evaluation.specs.Gives.{Any}
use Rattle.evaluation.proofs.Each.{Goes}
use Rattle.query_calls.proofs.sums.total.Given as goal

abbrev pub invariant-loop-value : goal.invariant-loop-value
invariant-loop-value l = (run : Run) → Goes Any (λ _. and_addend) l.fn.values (pos 0) run l.value-index l.total run
