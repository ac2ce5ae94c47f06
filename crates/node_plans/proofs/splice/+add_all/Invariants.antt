use Rattle.std.proofs.Common.{◌≡◌, ◌+◌, ◌-◌, ℕ, drop}
use Rattle.std.specs.List.{sum_by}
use Rattle.data_model.specs.Trees.{weigh}
use Rattle.node_table.specs.Flat.{read_trees, read_nodes}
use Rattle.node_plans.specs.Planned.{table_with}
use Rattle.node_plans.proofs.splice.+add_all.Given as goal

abbrev pub decreases-add_all : goal.decreases-add_all
decreases-add_all l = l.levels

-- with those that are left, it is all that is read
abbrev pub invariant-loop-id : goal.invariant-loop-id
invariant-loop-id l =
    let f = table_with l.plan l.rows in
    (w : ℕ → ℕ) → sum_by w l.found.items + weigh w (read_nodes f (read_trees (l.levels - 1) f) (drop l.id-index l.ids)) ≡ sum_by w l.fn.found.items + weigh w (read_trees l.levels f l.ids)
