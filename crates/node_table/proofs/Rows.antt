-- The rows of a forest, and the table that they are.
use Rattle.std.proofs.Common.{eqb, cond, List, ◌∷◌, true, false, ◌≡◌, ◌≢◌, ℕ, ◌≤◌, [], refl, ap, sym, ◌∙◌, arith, ⊎_elim, Option, Some, None, option_map, nat_eq, IsSome, is_some, subst, Result, Ok, Err, OnOk, OnErr, option_copied, Bor}
use Rattle.std.proofs.lemmas.Bool.Decides.{nat_tests, eqb_tells}
use Rattle.row_pages.specs.Rows.{Term, get, Changes, with_value}
use Rattle.std.specs.Map.{lookup, set_value}
use Rattle.data_model.specs.declared.node.Part.{Part}
use Rattle.data_model.specs.declared.node.Part.TheVariants.{Attributes, Children}
use Rattle.node_table.specs.declared.table.Row.{Row}
use Rattle.node_table.specs.Lists.{HasRoomFor}
use Rattle.node_table.specs.Flat.{Entry, Table, IsChangedAt, listed}
use Rattle.node_table.specs.Rows.{table_of, entry_of_row, list_in, HasRoomIn, HasRoom, row_of}
use Rattle.node_table.specs.Labels.{place_of, place_in}
use Rattle.node_table.proofs.Tables.{Sets}

pub table-empty : (m : Term Row) → m.0 ≡ [] → (i : ℕ) → table_of m i ≡ None
unfolding table_of
table-empty m e i = rw e

pub table-same : (m n : Term Row) → n.0 ≡ m.0 → table_of n ≡ table_of m
unfolding table_of
table-same m n e = rw e

pub table-sets : (m n : Term Row) (k : ℕ) (r : Row) → Changes k (Some r) m n → Sets (table_of m) (table_of n) k (entry_of_row r)
unfolding table_of
table-sets m n k r u = record { here = rw u.here; apart = λ i ne. ap (option_map entry_of_row) (u.apart i ne) }

-- a row that is removed
pub table-unset : (m n : Term Row) (k : ℕ) → Changes k None m n → (table_of n k ≡ None) × ((i : ℕ) → i ≢ k → table_of n i ≡ table_of m i)
unfolding table_of
table-unset m n k u = (rw u.here, λ i ne. ap (option_map entry_of_row) (u.apart i ne))

pub row-entry : (m : Term Row) (k : ℕ) (r : Row) → get m k ≡ Some r → table_of m k ≡ Some (entry_of_row r)
unfolding table_of
row-entry m k r e = ap (option_map entry_of_row) e

pub row-none : (m : Term Row) (k : ℕ) → get m k ≡ None → table_of m k ≡ None
unfolding table_of
row-none m k e = ap (option_map entry_of_row) e

-- a row that was read, or none
pub row-read : (m : Term Row) (k : ℕ) (o : Option (Bor Row)) → get m k ≡ option_copied o → option_map (λ row. entry_of_row row.now) o ≡ table_of m k
unfolding table_of
row-read m k None e = ap (option_map entry_of_row) (sym e)
row-read m k (Some r) e = ap (option_map entry_of_row) (sym e)

is_some-map : {A B : Type 0} (g : A → B) (o : Option A) → is_some (option_map g o) ≡ is_some o
is_some-map g None = refl
is_some-map g (Some x) = refl

pub is_some-table : (m : Term Row) (k : ℕ) → is_some (table_of m k) ≡ is_some (get m k)
unfolding table_of
is_some-table m k = is_some-map entry_of_row (get m k)

pub row-there : (m : Term Row) (k : ℕ) → get m k ≡ None → IsSome (table_of m k) → ⊥
unfolding table_of
row-there m k e h = let z = rw e at h in cc

-- ---- rows as they were
absent-row : (o : Option Row) → option_map entry_of_row o ≡ None → o ≡ None
absent-row None e = refl
absent-row (Some r) e = cc

pub row-unset : (m n : Term Row) (k : ℕ) → Changes k None m n → (row_of n k ≡ None) × ((i : ℕ) → i ≢ k → row_of n i ≡ row_of m i)
unfolding row_of
row-unset m n k u = (u.here, λ i ne. u.apart i ne)

pub row-set : (m n : Term Row) (k : ℕ) (r : Row) → Changes k (Some r) m n → (row_of n k ≡ Some r) × ((i : ℕ) → i ≢ k → row_of n i ≡ row_of m i)
unfolding row_of
row-set m n k r u = (u.here, λ i ne. u.apart i ne)

pub rows-same : (m n : Term Row) → n.0 ≡ m.0 → (i : ℕ) → row_of n i ≡ row_of m i
unfolding row_of
rows-same m n e i = rw e

pub table-row : (m n : Term Row) (i : ℕ) → row_of n i ≡ row_of m i → table_of n i ≡ table_of m i
unfolding row_of table_of
table-row m n i e = ap (option_map entry_of_row) e

pub place-row : (m n : Term Row) (i : ℕ) → row_of n i ≡ row_of m i → place_of n i ≡ place_of m i
unfolding row_of place_of
place-row m n i e = ap (place_in i) e

pub place-own : (m : Term Row) (i : ℕ) (r : Row) → row_of m i ≡ Some r → place_of m i ≡ r.place
unfolding row_of place_of
place-own m i r e = ap (place_in i) e

pub no-row : (m : Term Row) (i : ℕ) → table_of m i ≡ None → row_of m i ≡ None
unfolding row_of table_of
no-row m i e = absent-row (get m i) e

pub table-none : (m : Term Row) (i : ℕ) → row_of m i ≡ None → table_of m i ≡ None
unfolding row_of table_of
table-none m i e = ap (option_map entry_of_row) e

pub own-place : (m : Term Row) (i : ℕ) → row_of m i ≡ None → place_of m i ≡ i
unfolding row_of place_of
own-place m i e = ap (place_in i) e

-- ---- all rows as they were
pub rows-table : (m t : Term Row) → row_of t ≡ row_of m → table_of t ≡ table_of m
rows-table m t e = λ j i. (let z : table_of t i ≡ table_of m i = table-row m t i (ap (λ r. r i) e) in z j)

pub rows-places : (m t : Term Row) → row_of t ≡ row_of m → place_of t ≡ place_of m
rows-places m t e = λ j i. (let z : place_of t i ≡ place_of m i = place-row m t i (ap (λ r. r i) e) in z j)

-- ---- the numbers that rows carry
pub row-absent : (m : Term Row) (k : ℕ) → table_of m k ≡ None → get m k ≡ None
unfolding table_of
row-absent m k h = absent-row (get m k) h

pub places-same : (m n : Term Row) → n.0 ≡ m.0 → place_of n ≡ place_of m
unfolding place_of
places-same m n e = rw e

pub place-some : (m : Term Row) (k : ℕ) (r : Row) → get m k ≡ Some r → place_of m k ≡ r.place
unfolding place_of
place-some m k r e = ap (place_in k) e

pub place-none : (m : Term Row) (k : ℕ) → get m k ≡ None → place_of m k ≡ k
unfolding place_of
place-none m k e = ap (place_in k) e

-- a row that is written, with the number that its node had
pub places-written : (m n : Term Row) (k : ℕ) (r : Row) → place_of m k ≡ r.place → Changes k (Some r) m n → place_of n ≡ place_of m
unfolding place_of
places-written m n k r was u = λ t i.
    (let same : place_of n i ≡ place_of m i = ⊎_elim (λ x. rw x.1 (ap (place_in k) u.here ∙ sym was)) (λ x. ap (place_in i) (u.apart i x.1)) (eqb_tells i k) in same t)

-- a new row whose number is its identity
pub places-new : (m n : Term Row) (k : ℕ) (r : Row) → table_of m k ≡ None → r.place ≡ k → Changes k (Some r) m n → place_of n ≡ place_of m
places-new m n k r none own u = places-written m n k r (place-none m k (row-absent m k none) ∙ sym own) u

-- ---- room for more nodes
room-in : (part : Part) (n : ℕ) (o : Option Row) (r : Row) → o ≡ Some r → HasRoomIn part n o → HasRoomFor (list_in part r) n
room-in part n o r e h = let P : Option Row → Type 0 = HasRoomIn part n in subst P e h

room-of : (part : Part) (n : ℕ) (o : Option Row) (r : Row) → o ≡ Some r → HasRoomFor (list_in part r) n → HasRoomIn part n o
room-of part n o r e h = let P : Option Row → Type 0 = HasRoomIn part n in subst P (sym e) h

pub room-at : (part : Part) (k n : ℕ) (m : Term Row) (r : Row) → get m k ≡ Some r → HasRoom part k n m → HasRoomFor (list_in part r) n
unfolding HasRoom
room-at part k n m r e h = room-in part n _ r e h

pub room-none : (part : Part) (k n : ℕ) (m : Term Row) → get m k ≡ None → HasRoom part k n m → ⊥
unfolding HasRoom
room-none part k n m e h = let P : Option Row → Type 0 = HasRoomIn part n in subst P e h

room-in-less : (part : Part) (n j : ℕ) (o : Option Row) → j ≤ n → HasRoomIn part n o → HasRoomIn part j o
room-in-less part n j None l h = absurd h
room-in-less part n j (Some r) l h = omega arith

pub room-less : (part : Part) (k n j : ℕ) (m : Term Row) → j ≤ n → HasRoom part k n m → HasRoom part k j m
unfolding HasRoom
room-less part k n j m l h = room-in-less part n j _ l h

same-list : (part : Part) (r s : Row) → s.attributes ≡ r.attributes → s.children ≡ r.children → list_in part s ≡ list_in part r
same-list Attributes r s e h = e
same-list Children r s e h = h

-- ---- one row is written
module _ (m n : Term Row) (k : ℕ) (r s : Row) (was : get m k ≡ Some r) (now : IsSome (get m k) → Changes k (Some s) m n) where
  writes : Sets (table_of m) (table_of n) k (entry_of_row s)
  writes = table-sets m n k s (now (ap is_some was))

  reads : table_of m k ≡ Some (entry_of_row r)
  unfolding table_of
  reads = ap (option_map entry_of_row) was

  pub changed : (step : Entry → Entry) → step (entry_of_row r) ≡ entry_of_row s → IsChangedAt (table_of m) (table_of n) k step
  changed step e = record {
    here = λ d h. (let same : entry_of_row r ≡ d = (let z = reads in cc) in writes.here ∙ ap Some (sym e ∙ ap step same));
    apart = writes.apart;
  }

  pub unchanged : entry_of_row r ≡ entry_of_row s → table_of n ≡ table_of m
  unchanged e = λ t i. (let same : table_of n i ≡ table_of m i = ⊎_elim (λ x. rw x.1 (writes.here ∙ ap Some (sym e) ∙ sym reads)) (λ x. writes.apart i x.1) (eqb_tells i k) in same t)

  pub placed : s.place ≡ r.place → place_of n ≡ place_of m
  placed e = places-written m n k s (place-some m k r was ∙ sym e) (now (ap is_some was))

  pub place-set : (place_of n k ≡ s.place) × ((i : ℕ) → i ≢ k → place_of n i ≡ place_of m i)
  unfolding place_of
  place-set = (let u = now (ap is_some was) in (ap (place_in k) u.here, λ i ne. ap (place_in i) (u.apart i ne)))

  pub room-written : (part : Part) (j : ℕ) → HasRoomFor (list_in part s) j → HasRoom part k j n
  unfolding HasRoom
  room-written part j h = let u = now (ap is_some was) in room-of part j _ s u.here h

  pub room-as-it-was : s.attributes ≡ r.attributes → s.children ≡ r.children → (part : Part) (i j : ℕ) → HasRoom part i j m → HasRoom part i j n
  unfolding HasRoom
  room-as-it-was e h part i j room =
      let u = now (ap is_some was) in
      let P : Option Row → Type 0 = HasRoomIn part j in
      ⊎_elim
      (λ (t : (eqb i k ≡ true) × (i ≡ k)). (let here : P (get m k) = subst P (ap (get m) t.1) room in
      let fits = room-in part j _ r was here in
      subst P (sym (ap (get n) t.1)) (room-of part j _ s u.here (rw (same-list part r s e h) fits))))
      (λ (t : (eqb i k ≡ false) × (i ≢ k)). (let same : get n i ≡ get m i = u.apart i t.1 in subst P (sym same) room))
      (eqb_tells i k)

pub on_ok : {A E : Type 0} (r : Result A E) (X Y : Type 0) → (X → Y) → OnOk r X → OnOk r Y
on_ok (Ok x) X Y f h = f h
on_ok (Err e) X Y f h = tt

pub listed-items : (part : Part) (r : Row) → (list_in part r).items ≡ listed part (entry_of_row r)
listed-items Attributes r = refl
listed-items Children r = refl

pub on_err : {A E : Type 0} (r : Result A E) (X : Type 0) → X → OnErr r X
on_err (Ok x) X h = tt
on_err (Err e) X h = h

-- a new row, by what it says
pub row-sets : (f : Table) (m n : Term Row) (k i : ℕ) (r : Row) (e : Entry) → table_of m ≡ f → k ≡ i → entry_of_row r ≡ e → Changes k (Some r) m n → Sets f (table_of n) i e
row-sets f m n k i r e was same says u = let s = table-sets m n k r u in rw (was, same, says) at s

pub there-apart : (f : Table) (p k : ℕ) → IsSome (f p) → f k ≡ None → p ≢ k
there-apart f p k there none same = let z = rw (same, none) at there in cc

written-here : (es : List (ℕ × Row)) (k : ℕ) (w : Row) → IsSome (lookup (nat_eq k) es) → lookup (nat_eq k) (set_value (nat_eq k) es w) ≡ Some w
written-here [] k w h = absurd (let z = h in cc)
written-here (e ∷ es) k w h =
    ⊎_elim (λ t. (let z : nat_eq k e.0 ≡ true = t.0 in rw z (rw z refl)))
    (λ t. (let z : nat_eq k e.0 ≡ false = t.0 in let there : IsSome (lookup (nat_eq k) es) = rw z at h in rw z (rw z (written-here es k w there)))) (eqb_tells k e.0)

written-apart : (es : List (ℕ × Row)) (k i : ℕ) (w : Row) → i ≢ k → lookup (nat_eq i) (set_value (nat_eq k) es w) ≡ lookup (nat_eq i) es
written-apart [] k i w ne = refl
written-apart (e ∷ es) k i w ne =
    ⊎_elim (λ t. (let z : nat_eq k e.0 ≡ true = t.0 in let other : nat_eq i e.0 ≡ false = (let same : k ≡ e.0 = t.1 in grind (arith, nat_tests)) in rw z (rw other refl)))
    (λ t. (let z : nat_eq k e.0 ≡ false = t.0 in rw z (ap (cond (nat_eq i e.0) (Some e.1)) (written-apart es k i w ne)))) (eqb_tells k e.0)

-- what a write through `get_mut` leaves
pub written : (m : Term Row) (k : ℕ) (w : Row) → IsSome (get m k) → Changes k (Some w) m (with_value m k w)
written m k w h = record { here = written-here m.0 k w h; apart = λ i ne. written-apart m.0 k i w ne }
