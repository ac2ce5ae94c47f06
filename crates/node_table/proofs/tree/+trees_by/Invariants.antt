use Rattle.std.proofs.Common.{◌≡◌, ◌-◌, drop}
use Rattle.data_model.specs.Trees.{append}
use Rattle.data_model.specs.Tree.{all_of}
use Rattle.node_table.specs.Flat.{read_trees, read_nodes}
use Rattle.node_table.specs.Rows.{table_of}
use Rattle.node_table.proofs.tree.+trees_by.Given as goal

abbrev pub decreases-trees_by : goal.decreases-trees_by
decreases-trees_by l = l.levels

-- the cursor shows the rows as before, and what stands made goes before what is still to be read
abbrev pub invariant-loop-id : goal.invariant-loop-id
invariant-loop-id l =
    let f = table_of l.initial.cursor in
    (l.cursor ≡ l.initial.cursor)
    × (append (all_of l.trees.items) (read_nodes f (read_trees (l.levels - 1) f) (drop l.id-index l.ids)) ≡ read_trees l.levels f l.ids)
