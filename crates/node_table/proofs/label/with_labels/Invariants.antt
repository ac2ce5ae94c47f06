use Rattle.std.proofs.Common.{◌≡◌, All, map, filter, is_some, IsSome, take}
use Rattle.node_table.specs.Rows.{table_of, trees_of}
use Rattle.node_table.specs.Labels.{place_of, label_of}
use Rattle.node_table.proofs.label.with_labels.Given as goal

abbrev pub invariant-loop-id : goal.invariant-loop-id
invariant-loop-id l =
    record {
      nodes : map (λ x. x.node) l.labelled.items ≡ filter (λ i. is_some (table_of l.rows i)) (take l.id-index l.ids);
      there : All (λ x. IsSome (table_of l.rows x.node)) l.labelled.items;
      labels : All (λ x. x.label.items ≡ label_of (place_of l.rows) x.node (trees_of (table_of l.rows) l.levels)) l.labelled.items;
    }
