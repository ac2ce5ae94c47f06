use Rattle.std.proofs.Common.{◌≡◌, ◌++◌, ◌&&◌, filter, drop}
use Rattle.data_model.specs.Axes.{is_descendant}
use Rattle.data_model.specs.Trees.{find}
use Rattle.data_model.specs.declared.axis.Axis.TheVariants.{Descendant}
use Rattle.shelves.specs.Shelf.{shelf_trees}
use Rattle.query_meaning.specs.Paths.{passes_at}
use Rattle.query_steps.proofs.named.wanted_among.Given as goal

abbrev pub invariant-loop-id : goal.invariant-loop-id
invariant-loop-id l =
    l.wanted.items ++ filter (λ i. passes_at Descendant l.test (find i (shelf_trees l.shelf)) && is_descendant (shelf_trees l.shelf) l.root i) (drop l.id-index l.ids)
    ≡ filter (λ i. passes_at Descendant l.test (find i (shelf_trees l.shelf)) && is_descendant (shelf_trees l.shelf) l.root i) l.ids
