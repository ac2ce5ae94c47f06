use Rattle.std.proofs.Common.{[]}
use Rattle.query_meaning.specs.Meaning.{mean}
use Rattle.evaluation.proofs.Each.{Goes}
use Rattle.query_calls.specs.Arguments.{AllStand, and_argument}
use Rattle.query_calls.proofs.calls.Calls.values_of.Given as goal

abbrev pub invariant-loop-argument : goal.invariant-loop-argument
invariant-loop-argument g l = Goes AllStand (λ _ given x. and_argument l.env given (mean x)) l.fn.arguments [] l.fn.run l.argument-index l.values l.run
