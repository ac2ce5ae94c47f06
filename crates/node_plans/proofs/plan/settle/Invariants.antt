use Rattle.std.proofs.Common.{◌≡◌, ℕ, ◌≤◌, length}
use Rattle.std.specs.Option.{option_or}
use Rattle.row_pages.specs.Rows.{spare, entries}
use Rattle.node_table.specs.Rows.{row_of}
use Rattle.node_plans.specs.Planned.{planned}
use Rattle.node_plans.proofs.plan.settle.Given as goal

-- with those put that are left, the rows are what they are to be
abbrev pub invariant-loop-id : goal.invariant-loop-id
invariant-loop-id l = record {
  put : (i : ℕ) → option_or (row_of l.planned i) (row_of l.rows i) ≡ planned l.fn.plan (row_of l.fn.rows) i;
  room : length (entries l.planned) ≤ spare l.rows;
}

abbrev pub decreases-loop-id : goal.decreases-loop-id
decreases-loop-id l = length (entries l.planned)
