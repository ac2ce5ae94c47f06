use Rattle.std.proofs.Common.{◌≡◌, ◌+◌, ◌-◌, ◌≤◌, drop}
use Rattle.data_model.specs.Trees.{bytes_in}
use Rattle.node_table.specs.Flat.{read_trees, read_nodes}
use Rattle.node_table.specs.Rows.{table_of}
use Rattle.node_table.proofs.walk.+without_texts_by.Given as goal

abbrev pub decreases-without_texts_by : goal.decreases-without_texts_by
decreases-without_texts_by l = l.levels

-- the cursor shows the rows as before; what is left and what was read of the texts are the bytes, and what is to come of them is no more than all
abbrev pub invariant-loop-id : goal.invariant-loop-id
invariant-loop-id l =
    let f = table_of l.initial.cursor in
    let rest = bytes_in (read_nodes f (read_trees (l.levels - 1) f) (drop l.id-index l.ids)) in
    (l.cursor ≡ l.initial.cursor)
    × (l.left + bytes_in (read_trees l.levels f l.ids) ≡ l.bytes + rest)
    × (rest ≤ bytes_in (read_trees l.levels f l.ids))
