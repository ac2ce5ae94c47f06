use Rattle.std.proofs.Common.{◌≡◌, ◌+◌, ◌-◌, drop}
use Rattle.data_model.specs.Trees.{size}
use Rattle.node_table.specs.Flat.{read_trees, read_nodes}
use Rattle.node_table.specs.Rows.{table_of}
use Rattle.node_table.proofs.walk.+count_by.Given as goal

abbrev pub decreases-count_by : goal.decreases-count_by
decreases-count_by l = l.levels

abbrev pub invariant-loop-id : goal.invariant-loop-id
invariant-loop-id l =
    (l.cursor ≡ l.initial.cursor)
    × (l.nodes + size (read_nodes (table_of l.initial.cursor) (read_trees (l.levels - 1) (table_of l.initial.cursor)) (drop l.id-index l.ids)) ≡ size (read_trees l.levels (table_of l.initial.cursor) l.ids))
