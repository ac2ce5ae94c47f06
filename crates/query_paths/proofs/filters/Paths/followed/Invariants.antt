use Rattle.std.proofs.Common.{◌≡◌, length}
use Rattle.query_meaning.specs.Meaning.{mean}
use Rattle.query_meaning.specs.Paths.{mixed_code, segment}
use Rattle.query_meaning.specs.Running.{counted}
use Rattle.evaluation.specs.Gives.{Stand}
use Rattle.evaluation.proofs.Each.{Goes}
use Rattle.query_paths.proofs.filters.Paths.followed.Given as goal

abbrev pub invariant-loop-part : goal.invariant-loop-part
invariant-loop-part g l = (l.index ≡ l.part-index) × Goes Stand (λ i given x. counted (segment (mixed_code (length l.fn.parts) i) l.env given (mean x))) l.fn.parts l.fn.items l.fn.run l.part-index l.left l.run
