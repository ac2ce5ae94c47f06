-- What a splice writes into a plan.
use Rattle.std.proofs.Common.{◌≡◌, ◌≢◌, ℕ, ◌<◌, List, true, false, cond, eqb, refl, ap, sym, ◌∙◌, ⊎_elim, Option, Some, None, IsSome, is_some, option_map, nat_eq}
use Rattle.row_pages.specs.Rows.{Term}
use Rattle.std.specs.HashSet.{contains}
use Rattle.std.proofs.lemmas.Bool.Decides.{eqb_tells}
use Rattle.data_model.specs.Trees.{Trees, count}
use Rattle.data_model.specs.Walks.{held}
use Rattle.data_model.specs.declared.node.Part.{Part}
use Rattle.data_model.proofs.Climbs.{any-tells}
use Rattle.data_model.proofs.Weights.{eqb-same}
use Rattle.node_table.specs.declared.table.Row.{Row}
use Rattle.node_table.specs.Flat.{Entry, Table, Holds, IsChangedAt, entry_or}
use Rattle.node_table.specs.Rows.{entry_of_row, row_of, table_of}
use Rattle.node_table.specs.Labels.{place_in, place_of, AreRanked}
use Rattle.node_table.specs.Plans.{changed}
use Rattle.node_table.proofs.Tables.{Holds-same}
use Rattle.node_table.proofs.Copies.{Holds-there}
use Rattle.node_table.proofs.Entries.{some-of}
use Rattle.node_table.proofs.Numbers.{AreRanked-same}
use Rattle.node_table.proofs.Rows.{table-row, place-row, no-row}
use Rattle.node_plans.specs.declared.plan.Plan.{Plan}
use Rattle.node_plans.specs.Planned.{planned, table_with, places_with}
use Rattle.node_plans.specs.Splices.{with_list, Writes}
use Rattle.node_plans.proofs.Plans.{place-or, place-own, row-there, table-or, some-or}

-- ---- a node that goes
pub hidden : (p q : Plan) (k : ℕ) → row_of q.rows ≡ changed k None (row_of p.rows) → ((i : ℕ) → contains nat_eq q.gone i ≡ cond (nat_eq k i) true (contains nat_eq p.gone i)) → (r : ℕ → Option Row) → (planned q r k ≡ None) × ((i : ℕ) → i ≢ k → planned q r i ≡ planned p r i)
unfolding planned
hidden p q k e g r = (
  (let own : nat_eq k k ≡ true = eqb-same k in let a : row_of q.rows k ≡ None = ap (λ (f : ℕ → Option Row). f k) e ∙ rw own refl in let b : contains nat_eq q.gone k ≡ true = g k ∙ rw own refl in rw (a, b) refl),
  λ i ne. (let other : nat_eq k i ≡ false = ⊎_elim (λ (t : (eqb k i ≡ true) × (k ≡ i)). absurd (ne (sym t.1))) (λ (t : (eqb k i ≡ false) × (k ≢ i)). t.0) (eqb_tells k i) in
      let a : row_of q.rows i ≡ row_of p.rows i = ap (λ (f : ℕ → Option Row). f i) e ∙ rw other refl in
      let b : contains nat_eq q.gone i ≡ contains nat_eq p.gone i = g i ∙ rw other refl in
      rw (a, b) refl),
)

-- ---- a plan with the same rows, and the same nodes that go
module _ (p q : Plan) (m : Term Row) (rows : row_of q.rows ≡ row_of p.rows) (gone : (i : ℕ) → contains nat_eq q.gone i ≡ contains nat_eq p.gone i) where
  pub same-table : table_with q m ≡ table_with p m
  unfolding table_with planned
  same-table = λ t i. (let z : table_with q m i ≡ table_with p m i = rw (ap (λ (f : ℕ → Option Row). f i) rows, gone i) refl in z t)

  pub same-places : places_with q m ≡ places_with p m
  unfolding places_with planned
  same-places = λ t i. (let z : places_with q m i ≡ places_with p m i = rw (ap (λ (f : ℕ → Option Row). f i) rows, gone i) refl in z t)

entry-none : (a b : Option Entry) → entry_or a b ≡ None → a ≡ None
entry-none None b h = refl
entry-none (Some x) b h = cc

-- what is not there has no planned row
pub no-planned : (p : Plan) (m : Term Row) (i : ℕ) → table_with p m i ≡ None → row_of p.rows i ≡ None
no-planned p m i h = no-row p.rows i (entry-none (table_of p.rows i) _ (sym (table-or m p i) ∙ h))

-- what has a planned row says what that says
planned-says : (p : Plan) (m : Term Row) (i : ℕ) (e : Entry) → IsSome (row_of p.rows i) → table_with p m i ≡ Some e → table_of p.rows i ≡ Some e
planned-says p m i e there says =
    let x = some-of (table_of p.rows i) (row-there p.rows i ∙ there) in
    let z : Some x.0 ≡ Some e = sym (some-or m p i x.0 x.1) ∙ says in
    x.1 ∙ z

-- a node that is there is none of those that come
pub there-apart : (f : Table) (p : ℕ) (us : Trees) → IsSome (f p) → ((i : ℕ) → 0 < count i us → f i ≡ None) → count p us ≡ 0
there-apart f p us has fresh = ⊎_elim (λ t. (let z = ap is_some (fresh p t.1) in let y : false ≡ true = sym z ∙ has in cc)) (λ t. t.1) (any-tells (count p us))

-- ---- the steps
-- p0 is the plan, p1 has a row of p, rows have the trees us besides, p4 has another list in p's row, and p5 hides the nodes that go
module _ (p0 p1 p4 p5 : Plan) (rows : Term Row) (m : Term Row) (part : Part) (p first : ℕ) (list gone : List ℕ) (us : Trees) (table1 : table_with p1 m ≡ table_with p0 m) (places1 : places_with p1 m ≡ places_with p0 m) (there1 : IsSome (row_of p1.rows p))
    (planted : Holds (table_of rows) (Some p) us) (ranked : AreRanked (place_of rows) first us) (others : (i : ℕ) → count i us ≡ 0 → row_of rows i ≡ row_of p1.rows i)
    (one : IsChangedAt (table_of rows) (table_of p4.rows) p (with_list part list)) (places4 : place_of p4.rows ≡ place_of rows) (gone4 : (i : ℕ) → contains nat_eq p4.gone i ≡ contains nat_eq p1.gone i)
    (left5 : (r : ℕ → Option Row) (i : ℕ) → 0 < held i gone → planned p5 r i ≡ None) (kept5 : (r : ℕ → Option Row) (i : ℕ) → held i gone ≡ 0 → planned p5 r i ≡ planned p4 r i)
    (has : IsSome (table_with p0 m p)) (stays : held p gone ≡ 0) (fresh : (i : ℕ) → 0 < count i us → table_with p0 m i ≡ None) (apart : (i : ℕ) → 0 < count i us → held i gone ≡ 0) where
  not-p : (i : ℕ) → 0 < count i us → i ≢ p
  not-p i l same = (let z = ap is_some (ap (table_with p0 m) (sym same) ∙ fresh i l) in let y : false ≡ true = sym z ∙ has in cc)

  none-p : count p us ≡ 0
  none-p = there-apart (table_with p0 m) p us has fresh

  table-kept : (i : ℕ) → held i gone ≡ 0 → table_with p5 m i ≡ table_with p4 m i
  unfolding table_with
  table-kept i h = ap (option_map entry_of_row) (kept5 (row_of m) i h)

  table-left : (i : ℕ) → 0 < held i gone → table_with p5 m i ≡ None
  unfolding table_with
  table-left i l = ap (option_map entry_of_row) (left5 (row_of m) i l)

  place-kept : (i : ℕ) → held i gone ≡ 0 → places_with p5 m i ≡ places_with p4 m i
  unfolding places_with
  place-kept i h = ap (place_in i) (kept5 (row_of m) i h)

  -- the rows of p4
  table4 : (i : ℕ) → i ≢ p → table_of p4.rows i ≡ table_of rows i
  table4 i ne = one.apart i ne

  planted-here : (i : ℕ) → 0 < count i us → table_with p5 m i ≡ table_of rows i
  planted-here i l =
      let x = some-of (table_of rows i) (Holds-there (table_of rows) (Some p) us i planted l) in
      table-kept i (apart i l) ∙ some-or m p4 i x.0 (table4 i (not-p i l) ∙ x.1) ∙ sym x.1

  old-row : (i : ℕ) → count i us ≡ 0 → i ≢ p → table_of p4.rows i ≡ table_of p1.rows i
  old-row i z ne = table4 i ne ∙ table-row p1.rows rows i (others i z)

  list-here : (e : Entry) → table_with p0 m p ≡ Some e → table_with p5 m p ≡ Some (with_list part list e)
  list-here e at =
      let own = planned-says p1 m p e there1 (ap (λ (f : Table). f p) table1 ∙ at) in
      table-kept p stays ∙ some-or m p4 p (with_list part list e) (one.here e (table-row p1.rows rows p (others p none-p) ∙ own))

  kept-row : (i : ℕ) → held i gone ≡ 0 → count i us ≡ 0 → i ≢ p → table_with p5 m i ≡ table_with p0 m i
  kept-row i h z ne = table-kept i h ∙ table-or m p4 i ∙ rw (old-row i z ne, gone4 i) (sym (table-or m p1 i)) ∙ ap (λ (f : Table). f i) table1

  -- p4 has a row where p1 has one
  rows-there : (i : ℕ) → count i us ≡ 0 → is_some (row_of p4.rows i) ≡ is_some (row_of p1.rows i)
  rows-there i z =
      ⊎_elim
      (λ (t : (eqb i p ≡ true) × (i ≡ p)).
      (let x = some-of (table_of rows p) (ap is_some (table-row p1.rows rows p (others p none-p)) ∙ row-there p1.rows p ∙ there1) in
      rw t.1 (sym (row-there p4.rows p) ∙ ap is_some (one.here x.0 x.1) ∙ sym there1)))
      (λ (t : (eqb i p ≡ false) × (i ≢ p)). sym (row-there p4.rows i) ∙ ap is_some (old-row i z t.1) ∙ row-there p1.rows i)
      (eqb_tells i p)

  place-same : (i : ℕ) → count i us ≡ 0 → places_with p4 m i ≡ places_with p1 m i
  unfolding places_with planned place_of row_of
  place-same i z = rw (gone4 i) (place-or i (row_of p4.rows i) (row_of p1.rows i) _ (rows-there i z) (ap (λ (w : ℕ → ℕ). w i) places4 ∙ place-row p1.rows rows i (others i z)))

  place-own4 : (i : ℕ) → 0 < count i us → places_with p4 m i ≡ place_of rows i
  unfolding places_with planned place_of row_of
  place-own4 i l =
      let there : IsSome (row_of p4.rows i) = sym (row-there p4.rows i) ∙ ap is_some (table4 i (not-p i l)) ∙ Holds-there (table_of rows) (Some p) us i planted l in
      place-own i (row_of p4.rows i) _ there ∙ ap (λ (w : ℕ → ℕ). w i) places4

  pub writes : Writes (table_with p0 m) (table_with p5 m) (places_with p0 m) (places_with p5 m) part p first list gone us
  writes = record {
    here = list-here;
    planted = Holds-same (table_of rows) (table_with p5 m) (Some p) us planted-here planted;
    ranked = AreRanked-same (place_of rows) (places_with p5 m) first us (λ i l. place-kept i (apart i l) ∙ place-own4 i l) ranked;
    left = table-left;
    kept = kept-row;
    same = λ i h z. place-kept i h ∙ place-same i z ∙ ap (λ (w : ℕ → ℕ). w i) places1;
  }
