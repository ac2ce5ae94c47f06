use Rattle.query_meaning.specs.Running.{Run}
use Rattle.evaluation.proofs.Each.{Goes}
use Rattle.query_paths.specs.Gathered.{IsFewIn, one_found}
use Rattle.query_paths.proofs.found.Found.and_all.Given as goal

abbrev pub invariant-loop-item : goal.invariant-loop-item
invariant-loop-item l = (run : Run) → Goes IsFewIn (λ _. one_found) l.items l.fn.self run l.item-index l.found run
