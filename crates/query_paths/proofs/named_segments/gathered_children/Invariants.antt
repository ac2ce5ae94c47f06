use Rattle.std.proofs.Common.{◌≡◌, []}
use Rattle.evaluation.proofs.Each.{Goes}
use Rattle.query_paths.specs.Gathered.{IsFewIn}
use Rattle.query_paths.specs.Named.{found_children}
use Rattle.query_paths.proofs.named_segments.gathered_children.Given as goal

abbrev pub invariant-loop-item : goal.invariant-loop-item
invariant-loop-item l = record {
  goes : Goes IsFewIn (λ _. found_children l.test) l.items (record { nodes = []; atoms = [] }) l.fn.run l.item-index l.found l.run;
  same : l.run.shelf ≡ l.fn.run.shelf;
}
