-- Rows that were put back.
use Rattle.std.proofs.Common.{◌≡◌, ◌∙◌, ℕ, ◌≤◌, ◌<◌, Option, Some, None, Result, Ok, Err, ap, sym, ⊎_elim}
use Rattle.std.proofs.lemmas.Bool.{cases_lt}
use Rattle.row_pages.specs.Rows.{Term}
use Rattle.node_table.specs.declared.table.Row.{Row}
use Rattle.node_table.specs.Labels.{place_of}
use Rattle.node_table.specs.Rows.{row_of, table_of}
use Rattle.node_table.proofs.Copies.{put-back}
use Rattle.node_table.proofs.Rows.{no-row, own-place, place-row, table-none, table-row}
use Rattle.copied_rows.specs.Copies.{WhereNot}

-- rows got new nodes from `first` on and below `end`, which were taken out again
module _ (a m t : Term Row) (first end : ℕ) (above : (i : ℕ) → first ≤ i → table_of a i ≡ None) (same : (i : ℕ) → i < first → table_of m i ≡ table_of a i)
    (fresh : (i : ℕ) → end ≤ i → table_of m i ≡ None) (places : place_of m ≡ place_of a) (gone : (i : ℕ) → first ≤ i → i < end → row_of t i ≡ None)
    (before : (i : ℕ) → i < first → row_of t i ≡ row_of m i) (after : (i : ℕ) → end ≤ i → row_of t i ≡ row_of m i) where
  pub table-back : table_of t ≡ table_of a
  table-back = put-back (table_of a) (table_of m) (table_of t) first end above same fresh (λ i l k. table-none t i (gone i l k)) (λ i l. table-row m t i (before i l)) (λ i l. table-row m t i (after i l))

  pub places-back : place_of t ≡ place_of a
  places-back = λ j i.
      (let kept : (row_of t i ≡ row_of m i) → place_of t i ≡ place_of a i = λ e. place-row m t i e ∙ ap (λ w. w i) places in
      let z : place_of t i ≡ place_of a i =
      ⊎_elim (λ l. kept (before i l)) (λ l. ⊎_elim (λ k. own-place t i (gone i l k) ∙ sym (own-place a i (no-row a i (above i l)))) (λ k. kept (after i k)) (cases_lt i end)) (cases_lt i first) in
      z j)

pub where-not : {A E : Type 0} (r : Result (Option A) E) (P : Type 0) → P → WhereNot r P
where-not (Ok (Some a)) P h = tt
where-not (Ok None) P h = h
where-not (Err e) P h = h
