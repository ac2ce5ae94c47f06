-- Going up from two nodes.
use Prim.Native.Nat.{zero, suc}
use Rattle.std.proofs.Common.{◌≡◌, ◌≢◌, ℕ, ◌<◌, true, false, List, [], ◌∷◌, ◌++◌, cond, eqb, ltb, ap, sym, ◌∙◌, arith, ⊎_elim, Some, None, subst, append-nil, IsSome, Option, option_map, is_some, ◌+◌, Bool, refl}
use Rattle.std.proofs.lemmas.Bool.Decides.{eqb_tells}
use Rattle.data_model.specs.Trees.{Trees, Place, find, parent_at, parent_of, count}
use Rattle.data_model.specs.Order.{precedes}
use Rattle.data_model.specs.Walks.{depth_of}
use Rattle.node_table.specs.Flat.{Table, IsTableOf, entry_at, entry_is_root, parentless}
use Rattle.node_table.specs.Labels.{AllAbove, Ascends, HasNumbers, Orders, label_of, lists_before, parent_in}
use Rattle.node_table.proofs.Takes.{AllBelow, AllBelow-parentless, count-most}
use Rattle.data_model.proofs.Climbs.{AreDistinct, Rises, climbs, find-present, there-counts}
use Rattle.data_model.proofs.Paths.{path-up}
use Rattle.node_table.proofs.Tables.{find-table}
use Rattle.node_table.proofs.Labels.{numbered-trees}
use Rattle.node_table.proofs.LabelSteps.{label-steps, list-siblings, by-labels, up-label}

abbrev it : ℕ → ℕ
it i = i

above-last : (n m : ℕ) (xs : List ℕ) → AllAbove it n xs → n < m → AllAbove it n (xs ++ m ∷ [])
above-last n m [] h k = (k, tt)
above-last n m (x ∷ xs) h k = (h.0, above-last n m xs h.1 k)

ascends-last : (m : ℕ) (xs : List ℕ) → Ascends it xs → AllBelow m xs → Ascends it (xs ++ m ∷ [])
unfolding AllBelow
ascends-last m [] h k = (tt, tt)
ascends-last m (x ∷ xs) h k = (above-last x m xs h.0 k.0, ascends-last m xs h.1 k.1)

ascends-parentless : (f : Table) (n : ℕ) → Ascends it (parentless f n)
ascends-parentless f zero = tt
ascends-parentless f (suc n) =
    elim (entry_is_root (f n)) as (λ v. Ascends it (parentless f n ++ cond v (n ∷ []) [])) [
      | true ↦ ascends-last n (parentless f n) (ascends-parentless f n) (AllBelow-parentless f n n (omega arith))
      | false ↦ rw append-nil (ascends-parentless f n)
    ]

-- a table whose rows are numbered orders its trees
pub orders-of : (w : ℕ → ℕ) (f : Table) (n : ℕ) (ts : Trees) → IsTableOf f n ts → HasNumbers w f → Orders w ts
orders-of w f n ts h s = record {
  distinct = λ i. count-most f n ts i h;
  roots = (let P : List ℕ → Type 0 = Ascends it in subst P (sym h.in_order) (ascends-parentless f n));
  below = numbered-trees w f None ts s h.holds;
}

module _ (w : ℕ → ℕ) (ts : Trees) (o : Orders w ts) where
  pub up-none : (i : ℕ) → IsSome (find i ts) → parent_of i ts ≡ None → (depth_of i ts ≡ 0) × (label_of w i ts ≡ i ∷ [])
  up-none i there is = (
    ⊎_elim (λ l. l.2) (λ r. (let z : None ≡ Some r.0 = sym is ∙ r.1.parent in cc)) (climbs None i ts o.distinct (there-counts i ts there)),
    ⊎_elim (λ l. l.1) (λ r. (let z : None ≡ Some r.0 = sym is ∙ r.1.parent in cc)) (label-steps it w None i ts o.distinct (there-counts i ts there)),
  )

  -- two roots
  pub order-roots : (a b : ℕ) → IsSome (find a ts) → IsSome (find b ts) → parent_of a ts ≡ None → parent_of b ts ≡ None → precedes a b ts ≡ ltb a b
  order-roots a b ha hb na nb =
      by-labels w ts o a b (there-counts a ts ha) (there-counts b ts hb) ∙ ap (λ l. lists_before l (label_of w b ts)) (up-none a ha na).1 ∙ ap (lists_before (a ∷ [])) (up-none b hb nb).1 ∙ list-siblings a b []

pub same-ids : (x y : ℕ) → eqb x y ≡ true → x ≡ y
same-ids x y h = ⊎_elim (λ t. t.1) (λ t. (let z : false ≡ true = sym t.0 ∙ h in cc)) (eqb_tells x y)

pub other-ids : (x y : ℕ) → eqb x y ≡ false → x ≢ y
other-ids x y h same = ⊎_elim (λ t. (let z : true ≡ false = sym t.0 ∙ h in cc)) (λ t. t.1 same) (eqb_tells x y)

-- nothing is above what is no deeper than roots
pub parent-zero : (i : ℕ) (ts : Trees) → AreDistinct ts → IsSome (find i ts) → depth_of i ts ≡ 0 → parent_of i ts ≡ None
parent-zero i ts d there none =
    ⊎_elim (λ l. l.0) (λ (r : (q : ℕ) × Rises None i q ts). (let level = r.1.level in absurd (omega arith))) (climbs None i ts d (there-counts i ts there))

-- ---- the label of a node, from the table's rows
parent-entry : (o : Option Place) → parent_in (option_map entry_at o) ≡ parent_at o
parent-entry None = refl
parent-entry (Some x) = refl

module _ (w : ℕ → ℕ) (f : Table) (n : ℕ) (ts : Trees) (h : IsTableOf f n ts) where
  distinct : AreDistinct ts
  distinct i = count-most f n ts i h

  parent-row : (i : ℕ) → parent_of i ts ≡ parent_in (f i)
  parent-row i = sym (parent-entry (find i ts)) ∙ ap parent_in (find-table f n ts i h)

  pub row-counts : (i : ℕ) → IsSome (f i) → 0 < count i ts
  row-counts i there = (let z : count i ts ≡ 1 = h.counted i ∙ ap (λ b. cond {A = ℕ} b 1 0) there in omega arith)

  pub row-there : (i : ℕ) → 0 < count i ts → is_some (f i) ≡ true
  row-there i there = by (is_some (f i)) (h.counted i)
    where
      by : (b : Bool) → count i ts ≡ cond b 1 0 → b ≡ true
      by true e = refl
      by false e = absurd (omega arith)

  pub row-label-up : (i p : ℕ) → 0 < count i ts → parent_in (f i) ≡ Some p → (0 < count p ts) × (depth_of p ts + 1 ≡ depth_of i ts) × (label_of w i ts ≡ label_of w p ts ++ w i ∷ [])
  row-label-up i p there is =
      let up = up-label w i p ts distinct there (parent-row i ∙ is) in
      let path = path-up i p ts distinct (find-present None i ts there) (parent-row i ∙ is) in
      (up.0, path.1, up.1)

  pub row-label-top : (i : ℕ) → 0 < count i ts → parent_in (f i) ≡ None → label_of w i ts ≡ i ∷ []
  row-label-top i there is =
      ⊎_elim (λ l. l.1) (λ r. (let z : None ≡ Some r.0 = sym (parent-row i ∙ is) ∙ r.1.parent in cc)) (label-steps it w None i ts distinct there)

  -- as many levels up as there are nodes is a root
  pub row-label-end : (i : ℕ) → 0 < count i ts → depth_of i ts ≡ 0 → label_of w i ts ≡ i ∷ []
  row-label-end i there none = row-label-top i there (sym (parent-row i) ∙ parent-zero i ts distinct (find-present None i ts there) none)
