use Rattle.std.proofs.Common.{◌≡◌, [], length}
use Rattle.query_meaning.specs.Meaning.{mean}
use Rattle.evaluation.proofs.Each.{Goes}
use Rattle.query_paths.specs.Gathered.{IsFewIn, found_in}
use Rattle.query_paths.proofs.filters.Paths.gathered_each.Given as goal

abbrev pub invariant-loop-item : goal.invariant-loop-item
invariant-loop-item g l =
    (l.index ≡ l.item-index) × Goes IsFewIn (found_in (mean l.fn.part) l.fn.env (length l.fn.items)) l.fn.items (record { nodes = []; atoms = [] }) l.fn.run l.item-index l.found l.run
