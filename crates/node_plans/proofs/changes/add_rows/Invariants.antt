use Rattle.std.proofs.Common.{◌≡◌, ℕ, Option, length}
use Rattle.std.specs.Option.{option_or}
use Rattle.row_pages.specs.Rows.{entries}
use Rattle.node_table.specs.declared.table.Row.{Row}
use Rattle.node_table.specs.Rows.{row_of}
use Rattle.node_table.specs.Plans.{over}
use Rattle.node_plans.proofs.changes.add_rows.Given as goal

-- with those put that are left, the rows are what they are to be
abbrev pub invariant-loop-id : goal.invariant-loop-id
invariant-loop-id l = (r : ℕ → Option Row) (i : ℕ) → option_or (row_of l.rows i) (over l.changes.items r i) ≡ option_or (row_of l.fn.rows i) (over l.fn.changes.items r i)

abbrev pub decreases-loop-id : goal.decreases-loop-id
decreases-loop-id l = length (entries l.rows)
