-- Rows that are a forest's.
use Rattle.std.proofs.Common.{◌≡◌, ◌∙◌, ℕ, ap, sym, subst}
use Rattle.row_pages.specs.Rows.{Term}
use Rattle.node_table.specs.declared.table.Row.{Row}
use Rattle.node_table.specs.Flat.{IsTableOf}
use Rattle.node_table.specs.Rising.{AreOrdered}
use Rattle.node_table.specs.Rows.{table_of, trees_of}
use Rattle.node_table.proofs.Tables.{trees-of, IsTableOf-closes}
use Rattle.trees.specs.Forest.{ForestTerm}
use Rattle.trees.specs.Inside.{term_of, IsSound, AreRowsOf}
use Rattle.trees.specs.declared.forest.Forest.TheInside.{Inside}
use Rattle.trees.proofs.Forests.{now-table}

-- a forest's own rows
pub own-rows : (a : Inside) (v : ForestTerm) → term_of a ≡ v → IsSound a → AreRowsOf a.rows v
own-rows a v is h = (subst (λ n. IsTableOf (table_of a.rows) n v.trees) (ap (λ (x : ForestTerm). x.next) is) (now-table a v is h), h.numbered)

module _ (rows : Term Row) (v : ForestTerm) (h : AreRowsOf rows v) (n : ℕ) (is : n ≡ v.next) where
  -- they come in order, as far as the next identity
  pub in-order : AreOrdered rows n
  in-order = subst (AreOrdered rows) (sym is) (IsTableOf-closes (table_of rows) v.next v.trees h.0, h.1)

  -- their trees are the forest's
  pub own-trees : trees_of (table_of rows) n ≡ v.trees
  own-trees = ap (trees_of (table_of rows)) is ∙ trees-of (table_of rows) v.next v.trees h.0
