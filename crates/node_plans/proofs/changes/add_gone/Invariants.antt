use Rattle.std.proofs.Common.{◌≡◌, ℕ, Option, None, cond, nat_eq}
use Rattle.std.specs.HashSet.{contains}
use Rattle.std.specs.List.{list_any}
use Rattle.node_table.specs.declared.table.Row.{Row}
use Rattle.node_table.specs.Plans.{over}
use Rattle.node_plans.proofs.changes.add_gone.Given as goal

-- with those gone that are left, the rows are what they are to be
abbrev pub invariant-loop-id : goal.invariant-loop-id
invariant-loop-id l = (r : ℕ → Option Row) (i : ℕ) → cond (list_any (nat_eq i) l.id-iterator) None (over l.changes.items r i) ≡ cond (contains nat_eq l.fn.gone i) None (over l.fn.changes.items r i)
