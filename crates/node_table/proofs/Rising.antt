-- What rows tell of nodes that rise.
use Prim.Native.Nat.{zero, suc}
use Rattle.std.proofs.Common.{◌≡◌, ◌≢◌, ◌∙◌, ◌+◌, ◌<◌, ◌≤◌, ℕ, List, [], ◌∷◌, length, get_or, ltb, take, true, refl, ap, sym, arith, Bool, false, Option, Some, None, IfSome, IfNone, IsSome, is_some}
use Rattle.std.specs.Bool.{then_some}
use Rattle.row_pages.specs.Rows.{Term, get}
use Rattle.data_model.specs.Trees.{Trees, find, parent_of}
use Rattle.data_model.specs.Order.{identities, precedes}
use Rattle.data_model.specs.Walks.{held, depth_of}
use Rattle.data_model.proofs.Climbs.{AreDistinct, there-counts}
use Rattle.data_model.proofs.Firsts.{held-identities}
use Rattle.data_model.proofs.Paths.{path-up}
use Rattle.node_table.specs.declared.table.Row.{Row}
use Rattle.node_table.specs.Flat.{Entry, Table}
use Rattle.node_table.specs.Labels.{Orders, place_of, parent_in}
use Rattle.node_table.specs.Rising.{AreOrdered, IsAbove, Follows, Rises}
use Rattle.node_table.specs.Rows.{table_of, trees_of}
use Rattle.node_table.proofs.Entries.{is_some-entry, parent-in}
use Rattle.node_table.proofs.LabelSteps.{order-siblings, order-both}
use Rattle.node_table.proofs.Rows.{is_some-table}
use Rattle.node_table.proofs.Tables.{find-table}
use Rattle.node_table.proofs.Ups.{orders-of}

parent-there : (o : Option Entry) (p : ℕ) → parent_in o ≡ Some p → (e : Entry) × (o ≡ Some e) × (e.parent ≡ Some p)
parent-there None p h = let z : None ≡ Some p = h in cc
parent-there (Some e) p h = (e, refl, h)

module _ (rows : Term Row) (levels : ℕ) (h : AreOrdered rows levels) where
  rows-order : Orders (place_of rows) (trees_of (table_of rows) levels)
  rows-order = orders-of (place_of rows) (table_of rows) levels (trees_of (table_of rows) levels) h.0 h.1

  rows-distinct : AreDistinct (trees_of (table_of rows) levels)
  rows-distinct = rows-order.distinct

  -- a node stands where it has a row
  pub row-stands : (i : ℕ) → is_some (get rows i) ≡ is_some (find i (trees_of (table_of rows) levels))
  row-stands i =
      let ts = trees_of (table_of rows) levels in
      sym (is_some-table rows i) ∙ ap is_some (sym (find-table (table_of rows) levels ts i h.0)) ∙ is_some-entry (find i ts)

  -- a node whose row has a parent stands there, below it
  row-up : (i p : ℕ) → parent_in (table_of rows i) ≡ Some p → IsSome (find i (trees_of (table_of rows) levels)) × (parent_of i (trees_of (table_of rows) levels) ≡ Some p)
  row-up i p under =
      let ts = trees_of (table_of rows) levels in
      let e = parent-there (table_of rows i) p under in
      let at = find-table (table_of rows) levels ts i h.0 ∙ e.1 in
      (sym (is_some-entry (find i ts)) ∙ ap is_some at, parent-in i ts e.0 at ∙ e.2)

  -- nodes of one parent stand at one level, and come in the order of their numbers
  pub siblings : (a b : ℕ) (x y : ℕ × ℕ) → IsAbove rows a x → IsAbove rows b y → x.0 ≡ y.0
      → IsSome (find a (trees_of (table_of rows) levels)) × IsSome (find b (trees_of (table_of rows) levels))
      × (depth_of a (trees_of (table_of rows) levels) ≡ depth_of b (trees_of (table_of rows) levels)) × (precedes a b (trees_of (table_of rows) levels) ≡ ltb x.1 y.1)
  siblings a b x y ha hb same =
      let ts = trees_of (table_of rows) levels in
      let w = place_of rows in
      let up = row-up a x.0 ha.0 in
      let vp = row-up b x.0 (hb.0 ∙ ap Some (sym same)) in
      let d = rows-distinct in
      let order = order-siblings w ts rows-order a b x.0 (there-counts a ts up.0) (there-counts b ts vp.0) up.1 vp.1 in
      (up.0, vp.0, sym (path-up a x.0 ts d up.0 up.1).1 ∙ (path-up b x.0 ts d vp.0 vp.1).1, order ∙ ap (λ n. ltb n (w b)) (sym ha.1) ∙ ap (ltb x.1) (sym hb.1))

  -- nodes of two parents that stand at one level do so too, and come as these do
  pub cousins : (a b : ℕ) (x y : ℕ × ℕ) → IsAbove rows a x → IsAbove rows b y → x.0 ≢ y.0
      → IsSome (find a (trees_of (table_of rows) levels)) × IsSome (find b (trees_of (table_of rows) levels))
      × (depth_of x.0 (trees_of (table_of rows) levels) ≡ depth_of y.0 (trees_of (table_of rows) levels)
      → (depth_of a (trees_of (table_of rows) levels) ≡ depth_of b (trees_of (table_of rows) levels))
      × (precedes a b (trees_of (table_of rows) levels) ≡ precedes x.0 y.0 (trees_of (table_of rows) levels)))
  cousins a b x y ha hb ne =
      let ts = trees_of (table_of rows) levels in
      let up = row-up a x.0 ha.0 in
      let vp = row-up b y.0 hb.0 in
      let d = rows-distinct in (
        up.0,
        vp.0,
        λ level. (
          sym (path-up a x.0 ts d up.0 up.1).1 ∙ ap (λ n. n + 1) level ∙ (path-up b y.0 ts d vp.0 vp.1).1,
          order-both (place_of rows) ts rows-order a b x.0 y.0 (there-counts a ts up.0) (there-counts b ts vp.0) up.1 vp.1 level ne,
        ),
      )

stands-held : (i : ℕ) (ts : Trees) → IsSome (find i ts) → 0 < held i (identities ts)
stands-held i ts there = let e = held-identities i ts in let h = there-counts i ts there in omega arith

-- the nodes at the front of a list, each of which comes before the next
pub front-rises : (ts : Trees) (n : ℕ) (xs : List ℕ) → n ≤ length xs → ((k d : ℕ) → k < n → IsSome (find (get_or xs k d) ts)) → ((k d : ℕ) → suc k < n → precedes (get_or xs k d) (get_or xs (suc k) d) ts ≡ true) → Rises (take n xs) (identities ts)
front-rises ts zero xs within stand rise = tt
front-rises ts (suc n) [] within stand rise = absurd (omega (arith, within))
front-rises ts (suc n) (x ∷ xs) within stand rise =
    (stands-held x ts (stand 0 x (omega arith)), follows n xs rise, front-rises ts n xs (omega (arith, within)) (λ k d l. stand (suc k) d (omega (arith, l))) (λ k d l. rise (suc k) d (omega (arith, l))))
  where
    follows : (m : ℕ) (ys : List ℕ) → ((k d : ℕ) → suc k < suc m → precedes (get_or (x ∷ ys) k d) (get_or (x ∷ ys) (suc k) d) ts ≡ true) → Follows x (take m ys) (identities ts)
    follows zero ys r = tt
    follows (suc m) [] r = tt
    follows (suc m) (y ∷ ys) r = r 0 x (omega arith)

pub then-some : (b : Bool) (x : ℕ × ℕ) (o : Option (ℕ × ℕ)) (P : ℕ × ℕ → Type 0) → o ≡ then_some b x → (b ≡ true → P x) → IfSome o P
then-some true x o P e h = rw e (h refl)
then-some false x o P e h = rw e tt

-- what holds whatever was found
pub none-either : {A P : Type 0} (o : Option A) → P → IfNone o P
none-either None p = p
none-either (Some x) p = tt

pub siblings-parents : (f : Table) (a b x y p : ℕ) → parent_in (f a) ≡ Some x → parent_in (f b) ≡ Some y → parent_in (f a) ≡ Some p → parent_in (f b) ≡ Some p → x ≡ y
siblings-parents f a b x y p first second h k =
    let l : Some x ≡ Some p = sym first ∙ h in
    let r : Some y ≡ Some p = sym second ∙ k in
    cc
