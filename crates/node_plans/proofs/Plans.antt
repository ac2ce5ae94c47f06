-- Plans over tables, row by row.
use Rattle.std.proofs.Common.{◌≡◌, ◌≢◌, ℕ, List, [], ◌∷◌, Bool, true, false, ◌||◌, cond, eqb, refl, ap, sym, ◌∙◌, ⊎_elim, Option, Some, None, IsSome, is_some, option_map, nat_eq, arith}
use Rattle.std.specs.Option.{option_or}
use Rattle.std.specs.List.{list_any, IsDistinct}
use Rattle.row_pages.specs.Rows.{Term, get, Changes}
use Rattle.std.specs.HashSet.{contains}
use Rattle.std.specs.Map.{update_all, keys_of}
use Rattle.std.proofs.lemmas.Map.Made.{update_all_distinct}
use Rattle.std.proofs.lemmas.Bool.Decides.{eqb_tells, nat_tests}
use Rattle.std.specs.Cmp.{nat_eq_equiv}
use Rattle.node_table.specs.declared.table.Row.{Row}
use Rattle.node_table.specs.Flat.{Entry, Table, IsChangedAt, entry_or}
use Rattle.node_table.specs.Rows.{entry_of_row, row_of, table_of}
use Rattle.node_table.specs.Labels.{place_in, place_of}
use Rattle.node_table.proofs.Entries.{some-of}
use Rattle.node_plans.specs.declared.plan.Plan.{Plan}
use Rattle.node_plans.specs.Planned.{planned, rows_with, table_with, places_with}

-- ---- options
some-map : {A B : Type 0} (h : A → B) (o : Option A) → is_some (option_map h o) ≡ is_some o
some-map h None = refl
some-map h (Some x) = refl

map-there : (o : Option Row) → IsSome (option_map entry_of_row o) → IsSome o
map-there o h = sym (some-map entry_of_row o) ∙ h

map-or : (h : Row → Entry) (a b : Option Row) → option_map h (option_or a b) ≡ entry_or (option_map h a) (option_map h b)
map-or h None b = refl
map-or h (Some x) b = refl

pub place-or : (i : ℕ) (a b o : Option Row) → is_some a ≡ is_some b → place_in i a ≡ place_in i b → place_in i (option_or a o) ≡ place_in i (option_or b o)
place-or i None None o s e = refl
place-or i None (Some x) o s e = cc
place-or i (Some x) None o s e = cc
place-or i (Some x) (Some y) o s e = e

pub place-own : (i : ℕ) (a o : Option Row) → IsSome a → place_in i (option_or a o) ≡ place_in i a
place-own i None o h = cc
place-own i (Some x) o h = refl

neither : (b : Bool) → IsSome (option_map entry_of_row (cond b None None)) → ⊥
neither true h = cc
neither false h = cc

two-tests : (a b : Bool) (o : Option Row) → cond a None (cond b None o) ≡ cond (b || a) None o
two-tests true true o = refl
two-tests true false o = refl
two-tests false true o = refl
two-tests false false o = refl

apart-test : (k i : ℕ) → i ≢ k → nat_eq k i ≡ false
apart-test k i ne = grind (arith, nat_tests)

pub nothing-planned : (p : Plan) → p.rows.0 ≡ [] → p.gone.keys ≡ [] → (r : ℕ → Option Row) → planned p r ≡ r
unfolding planned row_of
nothing-planned p a b r = λ t i. (let e : planned p r i ≡ r i = rw (a, b) refl in e t)

-- ---- one node
module _ (p : Plan) (r : ℕ → Option Row) (i : ℕ) where
  pub planned-own : (x : Row) → row_of p.rows i ≡ Some x → planned p r i ≡ Some x
  unfolding planned
  planned-own x e = rw e refl

  pub planned-gone : row_of p.rows i ≡ None → contains nat_eq p.gone i ≡ true → planned p r i ≡ None
  unfolding planned
  planned-gone e g = rw (e, g) refl

  pub planned-kept : row_of p.rows i ≡ None → contains nat_eq p.gone i ≡ false → planned p r i ≡ r i
  unfolding planned
  planned-kept e g = rw (e, g) refl

-- ---- a row that is copied into the plan
gone-none : {X : Type 0} (b : Bool) (o : Option X) (x : X) → o ≡ Some x → IsSome (cond b None o) → cond b None o ≡ Some x
gone-none true o x e h = cc
gone-none false o x e h = e

module _ {X : Type 0} (g : Option Row → X) (p q : Plan) (r : ℕ → Option Row) (k : ℕ) (x y : Row) (none : row_of p.rows k ≡ None) (at : r k ≡ Some x) (there : IsSome (planned p r k)) (same : g (Some y) ≡ g (Some x)) (left : q.gone ≡ p.gone) (put : row_of q.rows k ≡ Some y) (apart : (i : ℕ) → i ≢ k → row_of q.rows i ≡ row_of p.rows i) where
  was : planned p r k ≡ Some x
  unfolding planned
  was = (let h : IsSome (cond (contains nat_eq p.gone k) None (r k)) = rw none at there in rw none (gone-none (contains nat_eq p.gone k) (r k) x at h))

  others : (i : ℕ) → i ≢ k → planned q r i ≡ planned p r i
  unfolding planned
  others i ne = rw (left, apart i ne) refl

  pub touched : (i : ℕ) → g (planned q r i) ≡ g (planned p r i)
  touched i = ⊎_elim (λ t. rw t.1 (ap g (planned-own q r k y put) ∙ same ∙ sym (ap g was))) (λ t. ap g (others i t.1)) (eqb_tells i k)

pub copied-table : (p q : Plan) (m : Term Row) (k : ℕ) (x y : Row) → row_of p.rows k ≡ None → row_of m k ≡ Some x → IsSome (table_with p m k) → entry_of_row y ≡ entry_of_row x → q.gone ≡ p.gone → Changes k (Some y) p.rows q.rows → table_with q m ≡ table_with p m
unfolding table_with row_of
copied-table p q m k x y none at there same left u = λ t i.
    (let e : table_with q m i ≡ table_with p m i = touched (option_map entry_of_row) p q (row_of m) k x y none at (map-there (planned p (row_of m) k) there) (ap Some same) left u.here (λ j ne. u.apart j ne) i in e t)

pub copied-places : (p q : Plan) (m : Term Row) (k : ℕ) (x y : Row) → row_of p.rows k ≡ None → row_of m k ≡ Some x → IsSome (table_with p m k) → y.place ≡ x.place → q.gone ≡ p.gone → Changes k (Some y) p.rows q.rows → places_with q m ≡ places_with p m
unfolding table_with places_with row_of
copied-places p q m k x y none at there same left u = λ t i.
    (let e : places_with q m i ≡ places_with p m i = touched (place_in i) p q (row_of m) k x y none at (map-there (planned p (row_of m) k) there) same left u.here (λ j ne. u.apart j ne) i in e t)

-- a node that has no row in either has none
pub planned-none : (p : Plan) (m : Term Row) (i : ℕ) → row_of p.rows i ≡ None → row_of m i ≡ None → IsSome (table_with p m i) → ⊥
unfolding table_with planned
planned-none p m i a b h = (let z = rw (a, b) at h in neither (contains nat_eq p.gone i) z)

-- ---- a plan whose rows are as they were
pub table-unchanged : (p q : Plan) (m : Term Row) → q.rows.0 ≡ p.rows.0 → q.gone ≡ p.gone → table_with q m ≡ table_with p m
unfolding table_with planned row_of
table-unchanged p q m e g = rw (e, g) refl

pub places-unchanged : (p q : Plan) (m : Term Row) → q.rows.0 ≡ p.rows.0 → q.gone ≡ p.gone → places_with q m ≡ places_with p m
unfolding places_with planned row_of
places-unchanged p q m e g = rw (e, g) refl

-- ---- what was read
pub row-found : (m : Term Row) (k i : ℕ) (o : Option Row) → get m k ≡ o → k ≡ i → row_of m i ≡ o
unfolding row_of
row-found m k i o e same = rw (← same) e

pub not-some : {X : Type 0} (o : Option X) → is_some o ≡ false → o ≡ None
not-some None h = refl
not-some (Some x) h = cc

pub row-put : (m n : Term Row) (k : ℕ) (r : Row) → Changes k (Some r) m n → row_of n k ≡ Some r
unfolding row_of
row-put m n k r u = u.here

pub row-there : (m : Term Row) (i : ℕ) → is_some (table_of m i) ≡ is_some (row_of m i)
unfolding table_of row_of
row-there m i = some-map entry_of_row (get m i)

pub entry-with : (p : Plan) (m : Term Row) (i : ℕ) (o : Option Row) → o ≡ rows_with p m i → table_with p m i ≡ option_map entry_of_row o
unfolding table_with
entry-with p m i o e = ap (option_map entry_of_row) (sym e)

pub kept-put : (m n : Term Row) (k : ℕ) (r : Row) → Changes k (Some r) m n → (i : ℕ) → IsSome (row_of m i) → IsSome (row_of n i)
unfolding row_of
kept-put m n k r u i h = ⊎_elim (λ (t : (eqb i k ≡ true) × (i ≡ k)). rw t.1 (ap is_some u.here)) (λ (t : (eqb i k ≡ false) × (i ≢ k)). ap is_some (u.apart i t.1) ∙ h) (eqb_tells i k)

pub kept-same : (m n : Term Row) → n.0 ≡ m.0 → (i : ℕ) → IsSome (row_of m i) → IsSome (row_of n i)
unfolding row_of
kept-same m n e i h = rw e h

-- ---- a planned row that is changed
pub table-or : (m : Term Row) (r : Plan) (i : ℕ) → table_with r m i ≡ entry_or (table_of r.rows i) (option_map entry_of_row (cond (contains nat_eq r.gone i) None (row_of m i)))
unfolding table_with planned table_of row_of
table-or m r i = map-or entry_of_row (row_of r.rows i) _

pub some-or : (m : Term Row) (r : Plan) (i : ℕ) (e : Entry) → table_of r.rows i ≡ Some e → table_with r m i ≡ Some e
some-or m r i e h = table-or m r i ∙ rw h refl

module _ (p q : Plan) (m : Term Row) (left : q.gone ≡ p.gone) where
  same-or : (i : ℕ) → table_of q.rows i ≡ table_of p.rows i → table_with q m i ≡ table_with p m i
  same-or i e = table-or m q i ∙ rw (left, e) (sym (table-or m p i))

  module _ (k : ℕ) (step : Entry → Entry) (there : IsSome (row_of p.rows k)) (c : IsChangedAt (table_of p.rows) (table_of q.rows) k step) where
    own : (x : Entry) × (table_of p.rows k ≡ Some x)
    own = some-of (table_of p.rows k) (row-there p.rows k ∙ there)

    pub changed-table : IsChangedAt (table_with p m) (table_with q m) k step
    changed-table = record {
      here = λ e at.
          (let same : own.0 ≡ e = (let z : Some own.0 ≡ Some e = sym (some-or m p k own.0 own.1) ∙ at in cc) in some-or m q k (step own.0) (c.here own.0 own.1) ∙ ap (λ (d : Entry). Some (step d)) same);
      apart = λ i ne. same-or i (c.apart i ne);
    }

    rows-there : (i : ℕ) → is_some (row_of q.rows i) ≡ is_some (row_of p.rows i)
    rows-there i =
        sym (row-there q.rows i) ∙ ⊎_elim (λ t. rw t.1 (ap is_some (c.here own.0 own.1) ∙ sym (ap is_some own.1))) (λ t. ap is_some (c.apart i t.1)) (eqb_tells i k) ∙ row-there p.rows i

    pub changed-places : place_of q.rows ≡ place_of p.rows → places_with q m ≡ places_with p m
    unfolding places_with planned place_of row_of
    changed-places e = λ t i.
        (let same : places_with q m i ≡ places_with p m i = rw left (place-or i (row_of q.rows i) (row_of p.rows i) _ (rows-there i) (ap (λ (w : ℕ → ℕ). w i) e)) in same t)

-- ---- rows that are removed and put
pub remove-step : (left : List ℕ) (x i : ℕ) (o : Option Row) → cond (list_any (nat_eq i) left) None (cond (nat_eq x i) None o) ≡ cond (list_any (nat_eq i) (x ∷ left)) None o
remove-step left x i o = rw (nat_eq_equiv.symm x i) (two-tests (list_any (nat_eq i) left) (nat_eq i x) o)

pub put-all : (p : Plan) (f r : ℕ → Option Row) → ((i : ℕ) → f i ≡ cond (contains nat_eq p.gone i) None (r i)) → IsDistinct nat_eq (keys_of p.rows.0) → (i : ℕ) → update_all nat_eq f p.rows.0 i ≡ planned p r i
unfolding planned row_of
put-all p f r e d i = update_all_distinct nat_eq_equiv nat_eq (λ x y. refl) f p.rows.0 i d ∙ rw (e i) refl

-- ---- what a node's row carries
pub place-with : (p : Plan) (m : Term Row) (i : ℕ) (o : Option Row) → o ≡ rows_with p m i → place_in i o ≡ places_with p m i
unfolding places_with
place-with p m i o e = ap (place_in i) e

-- rows of the plan that carry other numbers
module _ (p q : Plan) (m : Term Row) (left : q.gone ≡ p.gone) (says : table_of q.rows ≡ table_of p.rows) where
  pub renumbered-table : table_with q m ≡ table_with p m
  renumbered-table = λ t i. same-or p q m left i (ap (λ (f : Table). f i) says) t

  rows-stay : (i : ℕ) → is_some (row_of q.rows i) ≡ is_some (row_of p.rows i)
  rows-stay i = sym (row-there q.rows i) ∙ ap (λ (f : Table). is_some (f i)) says ∙ row-there p.rows i

  -- where the plan has none, or one that carries what it did
  pub renumbered-others : (i : ℕ) → place_of q.rows i ≡ place_of p.rows i → places_with q m i ≡ places_with p m i
  unfolding places_with planned place_of row_of
  renumbered-others i e = rw left (place-or i (row_of q.rows i) (row_of p.rows i) _ (rows-stay i) e)

  -- where the plan has one
  pub renumbered-here : (i : ℕ) → IsSome (row_of p.rows i) → places_with q m i ≡ place_of q.rows i
  unfolding places_with planned place_of row_of
  renumbered-here i there = place-own i (row_of q.rows i) _ (rows-stay i ∙ there)

-- ---- rows that a plan's rows take the place of, one by one
pub settle-step : (m n : Term Row) (f : ℕ → Option Row) (k : ℕ) (r : Row) → get m k ≡ Some r → Changes k None m n → (i : ℕ) → option_or (row_of n i) (cond (nat_eq k i) (Some r) (f i)) ≡ option_or (row_of m i) (f i)
unfolding row_of
settle-step m n f k r at u i =
    ⊎_elim (λ (t : (eqb k i ≡ true) × (k ≡ i)). (let z : nat_eq k i ≡ true = t.0 in let gone : get n i ≡ None = ap (get n) (sym t.1) ∙ u.here in let was : get m i ≡ Some r = ap (get m) (sym t.1) ∙ at in rw (z, gone, was) refl))
    (λ (t : (eqb k i ≡ false) × (k ≢ i)). (let z : nat_eq k i ≡ false = t.0 in let same : get n i ≡ get m i = u.apart i (λ e. t.1 (sym e)) in rw (z, same) refl))
    (eqb_tells k i)

pub settle-end : (m : Term Row) (i : ℕ) (o : Option Row) → get m i ≡ None → o ≡ option_or (row_of m i) o
unfolding row_of
settle-end m i o e = rw e refl
