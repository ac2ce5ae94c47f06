-- How the fields of a draft stand for its trees.
use Rattle.std.specs.Prelude.{◌≡◌, ◌≤◌, ◌^◌, length}
use Rattle.row_pages.specs.Rows.{entries, spare}
use Rattle.data_model.specs.Trees.{Trees, size}
use Rattle.node_table.specs.Flat.{Table, IsTableOf}
use Rattle.node_table.specs.Rows.{trees_of}
use Rattle.node_table.specs.Labels.{HasNumbers}
use Rattle.node_plans.specs.Planned.{table_with, places_with}
use Rattle.forest_index.specs.Named.{Covers}
use Rattle.forest_index.specs.Sized.{AreSizes, kept_sizes, size_with}
use Rattle.trees.specs.Inside.{term_of, AreStanding, IsSound}
use Rattle.trees.specs.Drafts.{DraftTerm}
use Rattle.trees.specs.declared.forest.Forest.TheInside as forest
use Rattle.trees.specs.declared.draft.Drafted.{Drafted}

-- the forest as it was
abbrev pub forest_of : Drafted → forest.Inside
forest_of a = record { rows = a.rows; documents = a.documents; next = a.first; nodes = a.nodes; index = a.index; names = a.names }

-- what the rows are to say
abbrev pub table_after : Drafted → Table
table_after a = table_with a.plan a.rows

abbrev pub trees_after : Drafted → Trees
trees_after a = trees_of (table_after a) a.next

abbrev pub draft_of : Drafted → DraftTerm
draft_of a = record { before = term_of (forest_of a); after = trees_after a; next = a.next }

-- the rows are those of a forest, and with the plan those of trees, which `count` counts, in which numbers rise and documents stand, and whose sizes are planned
pub record IsDrafted (a : Drafted) : Type 0 where
  pub before : IsSound (forest_of a)
  pub table : IsTableOf (table_after a) a.next (trees_after a)
  pub counted : a.count ≡ size (trees_after a)
  pub numbered : HasNumbers (places_with a.plan a.rows) (table_after a)
  pub bound : a.next ≤ 2 ^ 62
  pub standing : AreStanding (table_after a) a.documents.entries
  pub sized : AreSizes (size_with (kept_sizes a.index) a.resized) (trees_after a)

-- and there is room for the rows of the plan, and the elements that there are to be are in the index too
pub record IsPrepared (a : Drafted) : Type 0 where
  pub drafted : IsDrafted a
  pub room : length (entries a.plan.rows) ≤ spare a.rows
  pub named : Covers a.index (table_after a)
