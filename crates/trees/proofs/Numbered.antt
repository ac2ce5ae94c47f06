-- The numbers of a forest to which trees were added, or from which they were removed again.
use Rattle.std.proofs.Common.{◌≡◌, ℕ, ◌+◌, ◌≤◌, ◌<◌, ap, sym, ◌∙◌, arith, ⊎_elim, None}
use Rattle.std.proofs.lemmas.Bool.{cases_lt}
use Rattle.row_pages.specs.Rows.{Term}
use Rattle.data_model.specs.Trees.{Trees, append, count}
use Rattle.data_model.specs.Changes.{renumbered, ranked}
use Rattle.trees.specs.Forest.{ForestTerm}
use Rattle.node_table.specs.Flat.{Table, IsTableOf}
use Rattle.node_table.specs.Rows.{table_of, row_of}
use Rattle.trees.specs.Inside.{term_of, IsSound}
use Rattle.node_table.specs.Labels.{place_of, AreNumbered, AreRanked, HasNumbers}
use Rattle.node_table.specs.declared.table.Row.{Row}
use Rattle.trees.specs.declared.forest.Forest.TheInside.{Inside}
use Rattle.node_table.proofs.Rows.{no-row, own-place, place-row, table-row, table-none}
use Rattle.node_table.proofs.Labels.{numbered-trees}
use Rattle.node_table.proofs.Numbers.{AreNumbered-append, AreNumbered-ranked, AreNumbered-same, numbers-of, copies-numbered, ranks-numbered}
use Rattle.trees.proofs.Forests.{now-table}
use Rattle.node_table.proofs.Copies.{put-back}

module _ (a : Inside) (v : ForestTerm) (is : term_of a ≡ v) (h : IsSound a) where
  own : (i : ℕ) → a.next ≤ i → place_of a.rows i ≡ i
  own i l = own-place a.rows i (no-row a.rows i (h.table.above i l))

  below : AreNumbered (place_of a.rows) v.trees
  below = numbered-trees (place_of a.rows) (table_of a.rows) None v.trees h.numbered (now-table a v is h).holds

  -- copies have their identities
  pub copy-numbered : (us : Trees) (g : Table) (n : ℕ) → IsTableOf g n (append v.trees (renumbered a.next us)) → HasNumbers (place_of a.rows) g
  copy-numbered us g n whole =
      numbers-of (place_of a.rows) g n (append v.trees (renumbered a.next us)) whole (AreNumbered-append (place_of a.rows) v.trees (renumbered a.next us) below (copies-numbered (place_of a.rows) a.next own a.next us (omega arith)))

  -- planted trees have the numbers of their places
  pub plant-numbered : (w : ℕ → ℕ) (us : Trees) (k : ℕ) → ((i : ℕ) → count i v.trees + count i us ≤ 1) → ((i : ℕ) → count i us ≡ 0 → w i ≡ place_of a.rows i) → AreRanked w 0 us → (g : Table) (n : ℕ) → IsTableOf g n (ranked k us v.trees) → HasNumbers w g
  plant-numbered w us k d same ranks g n whole =
      numbers-of w g n (ranked k us v.trees) whole (AreNumbered-ranked w k us v.trees (ranks-numbered w 0 us ranks) (AreNumbered-same (place_of a.rows) w v.trees (λ i there. same i (let l = d i in omega arith)) below))

  -- the copies that were made are removed again
  module _ (m t : Term Row) (end : ℕ) (same : (i : ℕ) → i < a.next → table_of m i ≡ table_of a.rows i) (fresh : (i : ℕ) → end ≤ i → table_of m i ≡ None) (places : place_of m ≡ place_of a.rows)
      (gone : (i : ℕ) → a.next ≤ i → i < end → row_of t i ≡ None) (before : (i : ℕ) → i < a.next → row_of t i ≡ row_of m i) (after : (i : ℕ) → end ≤ i → row_of t i ≡ row_of m i) where
    pub table-back : table_of t ≡ table_of a.rows
    table-back =
        put-back (table_of a.rows) (table_of m) (table_of t) a.next end h.table.above same fresh (λ i l k. table-none t i (gone i l k)) (λ i l. table-row m t i (before i l)) (λ i l. table-row m t i (after i l))

    pub places-back : place_of t ≡ place_of a.rows
    places-back = λ j i.
        (let kept : (row_of t i ≡ row_of m i) → place_of t i ≡ place_of a.rows i = λ e. place-row m t i e ∙ ap (λ w. w i) places in
        let z : place_of t i ≡ place_of a.rows i =
        ⊎_elim (λ l. kept (before i l)) (λ l. ⊎_elim (λ k. own-place t i (gone i l k) ∙ sym (own i l)) (λ k. kept (after i k)) (cases_lt i end)) (cases_lt i a.next) in
        z j)
