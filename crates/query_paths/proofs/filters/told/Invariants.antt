use Rattle.std.proofs.Common.{◌≡◌, ◌≤◌, [], length}
use Rattle.query_meaning.specs.Environment.{Environment}
use Rattle.query_meaning.specs.Meaning.{mean}
use Rattle.query_meaning.specs.Paths.{kept}
use Rattle.evaluation.specs.Gives.{Stand}
use Rattle.evaluation.proofs.Each.{Goes}
use Rattle.query_paths.proofs.filters.told.Given as goal

abbrev pub invariant-loop-item : goal.invariant-loop-item
invariant-loop-item l =
    (l.index ≡ l.item-index)
    × ((length l.kept ≤ l.item-index) × ((env : Environment) → Goes Stand (λ i given x. kept (mean l.fn.function.expression) env (length l.fn.items) i given x) l.fn.items [] l.fn.run l.item-index l.kept l.run))
