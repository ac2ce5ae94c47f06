use Rattle.std.proofs.Common.{◌≡◌, ◌+◌, ◌<◌, ◌++◌, reverse}
use Rattle.data_model.specs.Trees.{count}
use Rattle.data_model.specs.Walks.{depth_of}
use Rattle.node_table.specs.Rows.{table_of, trees_of}
use Rattle.node_table.specs.Labels.{place_of, label_of}
use Rattle.node_table.proofs.label.read_label.Given as goal

-- the numbers so far, read backwards, are what the label of the node at hand lacks
abbrev pub invariant-loop : goal.invariant-loop
invariant-loop l =
    record {
      there : 0 < count l.at (trees_of (table_of l.rows) l.fn.levels);
      level : depth_of l.at (trees_of (table_of l.rows) l.fn.levels) + l.counter ≡ depth_of l.fn.id (trees_of (table_of l.rows) l.fn.levels);
      label : label_of (place_of l.rows) l.fn.id (trees_of (table_of l.rows) l.fn.levels) ≡ label_of (place_of l.rows) l.at (trees_of (table_of l.rows) l.fn.levels) ++ reverse l.label.items;
    }
