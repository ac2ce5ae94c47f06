use Rattle.std.proofs.Common.{◌≡◌, ℕ, ◌*◌, take}
use Rattle.data_model.specs.Walks.{held}
use Rattle.node_table.specs.Rows.{table_of}
use Rattle.node_table.specs.Labels.{place_of}
use Rattle.node_table.proofs.Numbers.{IsStepped}
use Rattle.node_plans.proofs.numbers.number_all.Given as goal

-- the first nodes have their numbers
abbrev pub invariant-loop-id : goal.invariant-loop-id
invariant-loop-id l =
    let front = take l.id-index l.ids in
    record {
      same : table_of l.rows ≡ table_of l.fn.rows;
      place : l.place ≡ l.id-index * l.step;
      stepped : IsStepped (place_of l.rows) l.step 0 front;
      others : (i : ℕ) → held i front ≡ 0 → place_of l.rows i ≡ place_of l.fn.rows i;
    }
