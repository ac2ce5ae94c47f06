-- A table of nodes and a plan over it, seen as one.
use Rattle.std.specs.Prelude.{ℕ, cond, Option, None, option_map, nat_eq}
use Rattle.std.specs.Option.{option_or}
use Rattle.row_pages.specs.Rows.{Term}
use Rattle.std.specs.HashSet.{contains}
use Rattle.node_table.specs.declared.table.Row.{Row}
use Rattle.node_table.specs.Flat.{Table}
use Rattle.node_table.specs.Rows.{entry_of_row, row_of}
use Rattle.node_table.specs.Labels.{place_in}
use Rattle.node_plans.specs.declared.plan.Plan.{Plan}

-- the row of each node: what is planned for it, or else, unless it is to go, what r has
unfoldable pub planned : Plan → (ℕ → Option Row) → ℕ → Option Row
planned p r i = option_or (row_of p.rows i) (cond (contains nat_eq p.gone i) None (r i))

module _ (p : Plan) (m : Term Row) where
  -- the row of each node, as planned over the rows m
  abbrev pub rows_with : ℕ → Option Row
  rows_with = planned p (row_of m)

  -- what these rows say of nodes
  unfoldable pub table_with : Table
  table_with i = option_map entry_of_row (rows_with i)

  -- the numbers that they carry
  unfoldable pub places_with : ℕ → ℕ
  places_with i = place_in i (rows_with i)
