-- How the fields of an undo stand for the forest as it was and as it was changed.
use Rattle.std.specs.Prelude.{◌≡◌, ℕ, ◌≤◌, ◌^◌, Option, None, option_map, map}
use Rattle.row_pages.specs.Rows.{spare}
use Rattle.data_model.specs.Trees.{Trees, size}
use Rattle.node_table.specs.declared.table.Row.{Row}
use Rattle.node_table.specs.Flat.{Table, IsTableOf}
use Rattle.node_table.specs.Rows.{entry_of_row, row_of, table_of, trees_of}
use Rattle.node_table.specs.Labels.{place_in, HasNumbers}
use Rattle.node_table.specs.Plans.{over, all_places}
use Rattle.forest_index.specs.Named.{Covers}
use Rattle.forest_index.specs.Sized.{AreSizes, kept_sizes, size_in, size_with}
use Rattle.trees.specs.Inside.{document_of, term_of, AreStanding, IsSound}
use Rattle.trees.specs.Undo.{UndoTerm}
use Rattle.trees.specs.declared.forest.Forest.TheInside as forest
use Rattle.trees.specs.declared.undo.Settled.{Settled}

-- the forest as it was changed, without its index
abbrev pub changed_forest : Settled → forest.Inside
changed_forest a = record { rows = a.rows; documents = a.documents; next = a.next; nodes = a.count; index = None; names = a.names }

-- the row of each node as it was
abbrev pub rows_before : Settled → ℕ → Option Row
rows_before a = over a.back.items (row_of a.rows)

-- what these rows say of nodes
unfoldable pub table_before : Settled → Table
table_before a i = option_map entry_of_row (rows_before a i)

-- the numbers that they carry
unfoldable pub places_before : Settled → ℕ → ℕ
places_before a i = place_in i (rows_before a i)

abbrev pub trees_before : Settled → Trees
trees_before a = trees_of (table_before a) a.first

abbrev pub undo_of : Settled → UndoTerm
undo_of a = record {
  before = record { trees = trees_before a; documents = map document_of a.documents.entries; next = a.first };
  after = term_of (changed_forest a);
}

-- the rows are those of a forest; with the changes back they are those of trees, which `nodes` counts, in which numbers rise and documents stand; the
-- index has the elements and the sizes of both; and there is room for the changes back
pub record IsUndo (a : Settled) : Type 0 where
  pub after : IsSound (changed_forest a)
  pub table : IsTableOf (table_before a) a.first (trees_before a)
  pub counted : a.nodes ≡ size (trees_before a)
  pub numbered : HasNumbers (places_before a) (table_before a)
  pub bound : a.first ≤ 2 ^ 62
  pub standing : AreStanding (table_before a) a.documents.entries
  pub named : Covers a.index (table_before a)
  pub sized : AreSizes (size_in (kept_sizes a.index)) (trees_before a)
  pub renamed : Covers a.index (table_of a.rows)
  pub resized : AreSizes (size_with (kept_sizes a.index) a.resized) (trees_of (table_of a.rows) a.next)
  pub room : all_places a.back.items ≤ spare a.rows
