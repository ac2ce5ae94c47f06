-- The fields of an undo, and its forests.
use Rattle.std.proofs.Common.{◌≡◌, ℕ, ◌+◌, ◌≤◌, ap, sym, ◌∙◌, arith, subst, List, Option, option_map, length, reverse, map, Vec, Global}
use Rattle.row_pages.specs.Rows.{Term, spare}
use Rattle.data_model.specs.Trees.{Trees, size}
use Rattle.node_table.specs.declared.table.Row.{Row}
use Rattle.node_table.specs.declared.exchange.Change.{Change}
use Rattle.node_table.specs.Flat.{Table, IsTableOf}
use Rattle.node_table.specs.Rows.{entry_of_row, row_of, table_of, trees_of}
use Rattle.node_table.specs.Labels.{place_in, place_of}
use Rattle.node_table.specs.Plans.{over, replaced, all_places}
use Rattle.node_table.proofs.Plans.{over-back, places-most, places-back}
use Rattle.node_plans.specs.Planned.{planned, rows_with, places_with}
use Rattle.trees.specs.Drafts.{DraftTerm, drafted_forest}
use Rattle.trees.specs.Drafted.{table_after, draft_of, IsDrafted}
use Rattle.forest_index.specs.Named.{Covers}
use Rattle.forest_index.specs.Sized.{AreSizes, kept_sizes, size_in, size_with}
use Rattle.trees.specs.Inside.{document_of, term_of, AreStanding, IsSound}
use Rattle.trees.specs.Settled.{changed_forest, rows_before, table_before, places_before, trees_before, IsUndo}
use Rattle.trees.specs.declared.draft.Drafted.{Drafted}
use Rattle.trees.specs.declared.forest.Forest.TheInside.{Inside}
use Rattle.trees.specs.declared.undo.Settled.{Settled}
use Rattle.node_table.proofs.Tables.{trees-of}
use Rattle.forest_index.proofs.Sized.{no-sizes}
use Rattle.trees.proofs.Forests.{term-is, sound}
use Rattle.trees.proofs.Drafts.{now-table, now-count, now-sizes, before-is, settled-table, settled-places}

-- ---- a table whose rows are those of before
module _ (u : Settled) (m : Term Row) (back : row_of m ≡ rows_before u) where
  pub before-table : table_of m ≡ table_before u
  unfolding table_of table_before row_of
  before-table = λ t i. (let z : table_of m i ≡ table_before u i = ap (λ (r : ℕ → Option Row). option_map entry_of_row (r i)) back in z t)

  pub before-places : place_of m ≡ places_before u
  unfolding place_of places_before row_of
  before-places = λ t i. (let z : place_of m i ≡ places_before u i = ap (λ (r : ℕ → Option Row). place_in i (r i)) back in z t)

  module _ (h : IsUndo u) where
    abbrev forest : Inside
    forest = record { rows = m; documents = u.documents; next = u.first; nodes = u.nodes; index = u.index; names = u.names }

    whole : IsTableOf (table_of m) u.first (trees_before u)
    whole = let P : Table → Type 0 = λ f. IsTableOf f u.first (trees_before u) in subst P (sym before-table) h.table

    pub back-sound : IsSound forest
    back-sound = sound forest (trees_before u) whole h.counted (rw (before-table, before-places) h.numbered) h.bound (rw before-table h.standing) (rw before-table h.named) h.sized

    pub back-is : term_of forest ≡ record { trees = trees_before u; documents = map document_of u.documents.entries; next = u.first }
    back-is = term-is forest (trees_before u) whole

-- ---- a draft that is settled: its changes, made in rows that have more room, and the changes back
module _ (a : Drafted) (v : DraftTerm) (is : draft_of a ≡ v) (h : IsDrafted a) (ps : List Change) (m n : Term Row) (b : Vec Change Global) (changes : (f : ℕ → Option Row) → over ps f ≡ planned a.plan f) (same : row_of m ≡ row_of a.rows) (rows : row_of n ≡ over ps (row_of m)) (plan : b.items ≡ reverse (replaced ps (row_of m))) where
  abbrev made : Settled
  made = record { rows = n; documents = a.documents; first = a.first; nodes = a.nodes; index = a.index; names = a.names; back = b; resized = a.resized; next = a.next; count = a.count }

  after : row_of n ≡ rows_with a.plan a.rows
  after = rows ∙ changes (row_of m) ∙ ap (planned a.plan) same

  before : row_of a.rows ≡ rows_before made
  before = sym same ∙ sym (rw (plan, rows) (over-back ps (row_of m)))

  table-is : table_of n ≡ table_after a
  table-is = settled-table a.plan a.rows n after

  places-are : place_of n ≡ places_with a.plan a.rows
  places-are = settled-places a.plan a.rows n after

  settled : IsTableOf (table_of n) a.next v.after
  settled = let P : Table → Type 0 = λ f. IsTableOf f a.next v.after in subst P (sym table-is) (now-table a v is h)

  was-table : table_of a.rows ≡ table_before made
  was-table = before-table made a.rows before

  was-places : place_of a.rows ≡ places_before made
  was-places = before-places made a.rows before

  room : length ps + length ps ≤ spare m → spare m ≤ spare n + all_places ps → all_places b.items ≤ spare n
  room twice left = (let few = places-most ps in let back = places-back ps (row_of m) in rw plan (omega arith))

  pub undo-sound : Covers a.index (table_after a) → length ps + length ps ≤ spare m → spare m ≤ spare n + all_places ps → IsUndo made
  undo-sound named twice left =
      let P : Table → Type 0 = λ f. IsTableOf f a.first (trees_of f a.first) × (a.nodes ≡ size (trees_of f a.first)) × AreStanding f a.documents.entries × Covers a.index f × AreSizes (size_in (kept_sizes a.index)) (trees_of f a.first) in
      let z : P (table_before made) = subst P was-table (h.before.table, h.before.nodes, h.before.standing, h.before.named, h.before.sized) in
      record {
        after = sound (changed_forest made) v.after settled (now-count a v is h) (rw (table-is, places-are) h.numbered) h.bound (rw table-is h.standing) tt (no-sizes _);
        table = z.0;
        counted = z.1;
        numbered = rw (← was-table, ← was-places) h.before.numbered;
        bound = h.before.bound;
        standing = z.2;
        named = z.3;
        sized = z.4;
        renamed = rw table-is named;
        resized = (let Q : Trees → Type 0 = AreSizes (size_with (kept_sizes a.index) a.resized) in subst Q (sym (trees-of (table_of n) a.next v.after settled)) (now-sizes a v is h));
        room = room twice left;
      }

  pub undo-before : record { trees = trees_before made; documents = map document_of a.documents.entries; next = a.first } ≡ v.before
  undo-before = ap (λ (f : Table). record { trees = trees_of f a.first; documents = map document_of a.documents.entries; next = a.first }) (sym was-table) ∙ before-is a v is h

  pub undo-after : term_of (changed_forest made) ≡ drafted_forest v
  undo-after = term-is (changed_forest made) v.after settled ∙ ap (λ (d : DraftTerm). record d.before { trees = v.after; next = d.next }) is
