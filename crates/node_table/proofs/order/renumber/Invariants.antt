use Rattle.std.proofs.Common.{◌≡◌, ℕ, ◌*◌, take}
use Rattle.data_model.specs.declared.node.Part.{Part}
use Rattle.data_model.specs.Walks.{held}
use Rattle.node_table.specs.Rows.{table_of, HasRoom}
use Rattle.node_table.specs.Labels.{place_of, lists_in}
use Rattle.node_table.proofs.Numbers.{IsStepped}
use Rattle.node_table.proofs.order.renumber.Given as goal

-- the first nodes have their numbers
abbrev pub invariant-loop-at : goal.invariant-loop-at
invariant-loop-at l =
    let front = take l.at (lists_in (table_of l.initial.rows l.id)) in
    record {
      same : table_of l.rows ≡ table_of l.initial.rows;
      place : l.place ≡ l.at * l.step;
      stepped : IsStepped (place_of l.rows) l.step 0 front;
      others : (i : ℕ) → held i front ≡ 0 → place_of l.rows i ≡ place_of l.initial.rows i;
      room : (part : Part) (i n : ℕ) → HasRoom part i n l.initial.rows → HasRoom part i n l.rows;
    }
