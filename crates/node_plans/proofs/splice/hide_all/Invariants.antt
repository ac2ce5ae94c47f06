use Rattle.std.proofs.Common.{◌≡◌, ◌<◌, ◌≤◌, ◌+◌, ℕ, Option, None, take, length}
use Rattle.std.specs.HashSet.{spare}
use Rattle.data_model.specs.Walks.{held}
use Rattle.node_table.specs.declared.table.Row.{Row}
use Rattle.node_plans.specs.Planned.{planned}
use Rattle.node_plans.proofs.splice.hide_all.Given as goal

-- the first nodes go
abbrev pub invariant-loop-id : goal.invariant-loop-id
invariant-loop-id l = record {
  gone : (r : ℕ → Option Row) (i : ℕ) → 0 < held i (take l.id-index l.ids) → planned l.plan r i ≡ None;
  kept : (r : ℕ → Option Row) (i : ℕ) → held i (take l.id-index l.ids) ≡ 0 → planned l.plan r i ≡ planned l.fn.plan r i;
  room : length l.ids ≤ spare l.plan.gone + l.id-index;
}
