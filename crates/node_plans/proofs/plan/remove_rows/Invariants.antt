use Rattle.std.proofs.Common.{◌≡◌, ℕ, ◌≤◌, None, cond, nat_eq}
use Rattle.row_pages.specs.Rows.{spare}
use Rattle.std.specs.HashSet.{contains}
use Rattle.std.specs.List.{list_any}
use Rattle.node_table.specs.Rows.{row_of}
use Rattle.node_plans.proofs.plan.remove_rows.Given as goal

-- with those removed that are left, the rows are what they are to be
abbrev pub invariant-loop-id : goal.invariant-loop-id
invariant-loop-id l = record {
  removed : (i : ℕ) → cond (list_any (nat_eq i) l.id-iterator) None (row_of l.rows i) ≡ cond (contains nat_eq l.fn.gone i) None (row_of l.fn.rows i);
  spare : spare l.fn.rows ≤ spare l.rows;
}
