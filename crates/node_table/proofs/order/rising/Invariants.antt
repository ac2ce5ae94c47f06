use Rattle.std.proofs.Common.{◌≡◌, ℕ, ◌+◌, ◌<◌, ◌-◌, get_or, true, IsSome}
use Rattle.data_model.specs.Trees.{find}
use Rattle.data_model.specs.Order.{precedes}
use Rattle.node_table.specs.Rising.{IsAbove}
use Rattle.node_table.specs.Rows.{table_of, trees_of}
use Rattle.node_table.proofs.order.rising.Given as goal

-- those before a place stand, each before the next
abbrev pub invariant-loop-at : goal.invariant-loop-at
invariant-loop-at l =
    let ts = trees_of (table_of l.rows) l.levels in
    record {
      rows : l.cursor ≡ l.rows;
      above : (d : ℕ) → IsAbove l.rows (get_or l.ids (l.at - 1) d) l.above;
      stand : (k d : ℕ) → k < l.at → IsSome (find (get_or l.ids k d) ts);
      rise : (k d : ℕ) → k + 1 < l.at → precedes (get_or l.ids k d) (get_or l.ids (k + 1) d) ts ≡ true;
    }
