use Rattle.std.proofs.Common.{◌≡◌, ◌-◌, ◌≤◌, ◌++◌, length, string_bytes, drop}
use Rattle.data_model.specs.Trees.{text_of}
use Rattle.node_table.specs.Flat.{read_trees, read_nodes}
use Rattle.node_table.specs.Rows.{table_of}
use Rattle.node_table.proofs.walk.+add_text_within.Given as goal

abbrev pub decreases-add_text_within : goal.decreases-add_text_within
decreases-add_text_within l = l.levels

abbrev pub invariant-loop-id : goal.invariant-loop-id
invariant-loop-id l =
    (length (string_bytes l.out) ≤ l.most)
    × (string_bytes l.out ++ text_of (read_nodes (table_of l.rows) (read_trees (l.levels - 1) (table_of l.rows)) (drop l.id-index l.ids)) ≡ string_bytes l.initial.out ++ text_of (read_trees l.levels (table_of l.rows) l.ids))
