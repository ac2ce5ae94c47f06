use Rattle.std.proofs.Common.{◌≡◌, IsSome}
use Rattle.data_model.specs.Trees.{find}
use Rattle.data_model.specs.Order.{precedes}
use Rattle.data_model.specs.Walks.{depth_of}
use Rattle.node_table.specs.Rising.{AreSiblings}
use Rattle.node_table.specs.Rows.{table_of, trees_of}
use Rattle.node_table.proofs.order.level_order.Given as goal

-- where both stand at one level, so do the two nodes, and which is first is as with them; siblings are looked at once
abbrev pub invariant-loop : goal.invariant-loop
invariant-loop l =
    let ts = trees_of (table_of l.initial.rows) l.levels in
    record {
      rows : l.rows ≡ l.initial.rows;
      ends : IsSome (find l.first ts) → IsSome (find l.second ts) → depth_of l.first ts ≡ depth_of l.second ts
          → IsSome (find l.fn.a ts) × IsSome (find l.fn.b ts) × (precedes l.fn.a l.fn.b ts ≡ precedes l.first l.second ts);
      begun : AreSiblings l.fn.a l.fn.b (table_of l.initial.rows) → (l.counter ≡ 0) × (l.first ≡ l.fn.a) × (l.second ≡ l.fn.b);
    }
