use Rattle.std.proofs.Common.{◌≡◌, ◌<◌, ℕ, IsSome, take}
use Rattle.data_model.specs.Walks.{held}
use Rattle.node_table.specs.Rows.{row_of}
use Rattle.node_plans.specs.Planned.{table_with, places_with}
use Rattle.node_plans.proofs.numbers.touch_all.Given as goal

-- the first nodes are there
abbrev pub invariant-loop-id : goal.invariant-loop-id
invariant-loop-id l = record {
  same : table_with l.plan l.rows ≡ table_with l.fn.plan l.rows;
  places : places_with l.plan l.rows ≡ places_with l.fn.plan l.rows;
  there : (i : ℕ) → 0 < held i (take l.id-index l.ids) → IsSome (row_of l.plan.rows i);
}
