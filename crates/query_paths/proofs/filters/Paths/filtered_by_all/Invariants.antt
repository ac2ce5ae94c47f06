use Rattle.query_meaning.specs.Meaning.{mean}
use Rattle.query_meaning.specs.Paths.{filtered}
use Rattle.evaluation.specs.Gives.{Stand}
use Rattle.evaluation.proofs.Each.{Goes}
use Rattle.query_paths.proofs.filters.Paths.filtered_by_all.Given as goal

abbrev pub invariant-loop-predicate : goal.invariant-loop-predicate
invariant-loop-predicate g l = Goes Stand (λ _ given x. filtered l.env given (mean x)) l.fn.predicates l.fn.items l.fn.run l.predicate-index l.left l.run
