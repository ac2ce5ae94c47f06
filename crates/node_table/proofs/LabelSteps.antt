-- A node's label is its parent's with one number more, so that labels are compared by going up.
use Prim.Native.Nat.{suc}
use Rattle.std.proofs.Common.{◌≡◌, ◌≢◌, ℕ, ◌+◌, ◌≤◌, ◌<◌, true, false, List, [], ◌∷◌, ◌++◌, length, eqb, ltb, refl, ap, sym, ◌∙◌, arith, ⊎_elim, ◌⊎◌, inl, inr, Option, Some, None}
use Rattle.std.proofs.lemmas.Bool.Decides.{nat_tests, eqb_tells}
use Rattle.data_model.specs.Trees.{Trees, no_trees, tree, Content, first, find_below, parent_at, parent_of, roots, count}
use Rattle.data_model.specs.Order.{identities, precedes}
use Rattle.data_model.specs.Walks.{seen, depth_of}
use Rattle.node_table.specs.Labels.{lists_before, Ascends, AreNumbered, Orders, label_by, label_of}
use Rattle.data_model.proofs.Weights.{eqb-same}
use Rattle.data_model.proofs.Climbs.{AreDistinct, any-tells, find-absent, find-present, first-some}
use Rattle.data_model.proofs.Firsts.{eqb-swap}
use Rattle.node_table.proofs.Labels.{label-here, label-later, seen-by-labels, precedes-by-labels}

-- ---- lists of numbers, at whose ends one more stands
pub list-same : (l : List ℕ) → lists_before l l ≡ false
list-same [] = refl
list-same (x ∷ l) = rw (eqb-same x) (list-same l)

-- the number more counts for nothing where the list differs from another that is no longer
pub list-last : (n : ℕ) (l m : List ℕ) → length m ≤ length l → l ≢ m → (lists_before (l ++ n ∷ []) m ≡ lists_before l m) × (lists_before m (l ++ n ∷ []) ≡ lists_before m l)
list-last n [] [] h ne = absurd (ne refl)
list-last n [] (y ∷ m) h ne = absurd (omega arith)
list-last n (x ∷ l) [] h ne = (refl, refl)
list-last n (x ∷ l) (y ∷ m) h ne =
    ⊎_elim
    (λ t. (let on = list-last n l m (omega arith) (λ same. ne (ap (λ z. z ∷ l) t.1 ∙ ap (λ k. y ∷ k) same)) in rw (t.0, eqb-swap x y true t.0) on))
    (λ t. rw (t.0, eqb-swap x y false t.0) (refl, refl)) (eqb_tells x y)

pub list-begins : (n : ℕ) (l : List ℕ) → (lists_before l (l ++ n ∷ []) ≡ true) × (lists_before (l ++ n ∷ []) l ≡ false)
list-begins n [] = (refl, refl)
list-begins n (x ∷ l) = rw (eqb-same x) (list-begins n l)

pub list-siblings : (m n : ℕ) (l : List ℕ) → lists_before (l ++ m ∷ []) (l ++ n ∷ []) ≡ ltb m n
list-siblings m n [] = ⊎_elim (λ t. rw t.0 (grind (arith, nat_tests))) (λ t. rw t.0) (eqb_tells m n)
list-siblings m n (x ∷ l) = rw (eqb-same x) (list-siblings m n l)

-- two numbers more, where the lists are equally long and differ
pub list-both : (m n : ℕ) (l k : List ℕ) → length l ≡ length k → l ≢ k → lists_before (l ++ m ∷ []) (k ++ n ∷ []) ≡ lists_before l k
list-both m n [] [] h ne = absurd (ne refl)
list-both m n [] (y ∷ k) h ne = absurd (omega arith)
list-both m n (x ∷ l) [] h ne = absurd (omega arith)
list-both m n (x ∷ l) (y ∷ k) h ne = ⊎_elim (λ t. (let on = list-both m n l k (omega arith) (λ same. ne (ap (λ z. z ∷ l) t.1 ∙ ap (λ j. y ∷ j) same)) in rw t.0 on)) (λ t. rw t.0 refl) (eqb_tells x y)

-- ---- labels are as long as nodes are deep
pub label-length : (u w : ℕ → ℕ) (i : ℕ) (ts : Trees) → 0 < count i ts → length (label_by u w i ts) ≡ suc (depth_of i ts)
label-length u w i no_trees h = absurd (omega arith)
label-length u w i (tree c bs cs rest) h =
    ⊎_elim (λ t. (let one : 0 < count i (tree c bs cs no_trees) = rw t.0 (omega arith) in rw (label-here u w i c bs cs rest one, t.0) refl))
    (λ t. (let z = rw t.0 at h in
    ⊎_elim (λ v. (let one : 0 < count i (tree c bs cs no_trees) = omega arith in rw (label-here u w i c bs cs rest one, t.0, v.0) (ap suc (label-length w w i bs v.1))))
    (λ v. ⊎_elim
    (λ x. (let one : 0 < count i (tree c bs cs no_trees) = omega arith in rw (label-here u w i c bs cs rest one, t.0, v.0, x.0) (ap suc (label-length w w i cs x.1))))
    (λ x. (let nb : count i bs ≡ 0 = v.1 in
    let nc : count i cs ≡ 0 = x.1 in
    let none : count i (tree c bs cs no_trees) ≡ 0 = rw t.0 (omega arith) in rw (label-later u w i c bs cs rest none, t.0, v.0, x.0) (label-length u w i rest (omega arith))))
    (any-tells (count i cs)))
    (any-tells (count i bs)))) (eqb_tells i c.identity)

-- ---- one step up
pub record Labelled (u w : ℕ → ℕ) (o : Option ℕ) (i p : ℕ) (ts : Trees) : Type 0 where
  pub parent : parent_at (find_below o i ts) ≡ Some p
  pub there : 0 < count p ts
  pub label : label_by u w i ts ≡ label_by u w p ts ++ w i ∷ []

abbrev pub LabelSteps : (ℕ → ℕ) → (ℕ → ℕ) → Option ℕ → ℕ → Trees → Type 0
LabelSteps u w o i ts = ((parent_at (find_below o i ts) ≡ o) × (label_by u w i ts ≡ u i ∷ [])) ⊎ ((p : ℕ) × Labelled u w o i p ts)

module _ (u w : ℕ → ℕ) (c : Content) (bs cs rest : Trees) (d : AreDistinct (tree c bs cs rest)) where
  apart : (j : ℕ) → 0 < count j bs + count j cs + count j rest → eqb j c.identity ≡ false
  apart j h = ⊎_elim (λ t. (let z = rw t.0 at (d j) in absurd (omega arith))) (λ t. t.0) (eqb_tells j c.identity)

  head-label : label_by u w c.identity (tree c bs cs rest) ≡ u c.identity ∷ []
  head-label = (let one : 0 < count c.identity (tree c bs cs no_trees) = rw (eqb-same c.identity) (omega arith) in rw (label-here u w c.identity c bs cs rest one, eqb-same c.identity) refl)

  bs-label : (j : ℕ) → 0 < count j bs → label_by u w j (tree c bs cs rest) ≡ u c.identity ∷ label_by w w j bs
  bs-label j h =
      let one : 0 < count j (tree c bs cs no_trees) = omega arith in
      ⊎_elim (λ t. rw (label-here u w j c bs cs rest one, apart j (omega arith), t.0) refl) (λ t. absurd (omega arith)) (any-tells (count j bs))

  cs-label : (j : ℕ) → 0 < count j cs → label_by u w j (tree c bs cs rest) ≡ u c.identity ∷ label_by w w j cs
  cs-label j h =
      let one : 0 < count j (tree c bs cs no_trees) = omega arith in
      ⊎_elim (λ t. (let z = d j in absurd (omega arith))) (λ t. rw (label-here u w j c bs cs rest one, apart j (omega arith), t.0) refl) (any-tells (count j bs))

  rest-label : (j : ℕ) → 0 < count j rest → label_by u w j (tree c bs cs rest) ≡ label_by u w j rest
  rest-label j h = label-later u w j c bs cs rest (let z = d j in omega arith)

  head-there : 0 < count c.identity (tree c bs cs rest)
  head-there = rw (eqb-same c.identity) (omega arith)

  step-bs : (o : Option ℕ) (i : ℕ) → 0 < count i bs → LabelSteps w w (Some c.identity) i bs → LabelSteps u w o i (tree c bs cs rest)
  step-bs o i h r =
      let found : find_below o i (tree c bs cs rest) ≡ find_below (Some c.identity) i bs = rw (apart i (omega arith)) (first-some (find_below (Some c.identity) i bs) (first (find_below (Some c.identity) i cs) (find_below o i rest)) (find-present (Some c.identity) i bs h)) in
      ⊎_elim
      (λ l. inr (c.identity, record { parent = ap parent_at found ∙ l.0; there = head-there; label = bs-label i h ∙ ap (λ x. u c.identity ∷ x) l.1 ∙ ap (λ x. x ++ w i ∷ []) (sym head-label) }))
      (λ l. (let there = l.1.there in
      inr (l.0, record { parent = ap parent_at found ∙ l.1.parent; there = omega arith; label = bs-label i h ∙ ap (λ x. u c.identity ∷ x) l.1.label ∙ ap (λ x. x ++ w i ∷ []) (sym (bs-label l.0 there)) }))) r

  step-cs : (o : Option ℕ) (i : ℕ) → 0 < count i cs → LabelSteps w w (Some c.identity) i cs → LabelSteps u w o i (tree c bs cs rest)
  step-cs o i h r =
      let none : count i bs ≡ 0 = (let z = d i in omega arith) in
      let found : find_below o i (tree c bs cs rest) ≡ find_below (Some c.identity) i cs = rw (apart i (omega arith), find-absent (Some c.identity) i bs none) (first-some (find_below (Some c.identity) i cs) (find_below o i rest) (find-present (Some c.identity) i cs h)) in
      ⊎_elim
      (λ l. inr (c.identity, record { parent = ap parent_at found ∙ l.0; there = head-there; label = cs-label i h ∙ ap (λ x. u c.identity ∷ x) l.1 ∙ ap (λ x. x ++ w i ∷ []) (sym head-label) }))
      (λ l. (let there = l.1.there in
      inr (l.0, record { parent = ap parent_at found ∙ l.1.parent; there = omega arith; label = cs-label i h ∙ ap (λ x. u c.identity ∷ x) l.1.label ∙ ap (λ x. x ++ w i ∷ []) (sym (cs-label l.0 there)) }))) r

  step-rest : (o : Option ℕ) (i : ℕ) → 0 < count i rest → LabelSteps u w o i rest → LabelSteps u w o i (tree c bs cs rest)
  step-rest o i h r =
      let nb : count i bs ≡ 0 = (let z = d i in omega arith) in
      let nc : count i cs ≡ 0 = (let z = d i in omega arith) in
      let found : find_below o i (tree c bs cs rest) ≡ find_below o i rest = rw (apart i (omega arith), find-absent (Some c.identity) i bs nb, find-absent (Some c.identity) i cs nc) in
      ⊎_elim (λ l. inl (ap parent_at found ∙ l.0, rest-label i h ∙ l.1))
      (λ l. (let there = l.1.there in
      inr (l.0, record { parent = ap parent_at found ∙ l.1.parent; there = omega arith; label = rest-label i h ∙ l.1.label ∙ ap (λ x. x ++ w i ∷ []) (sym (rest-label l.0 there)) }))) r

pub label-steps : (u w : ℕ → ℕ) (o : Option ℕ) (i : ℕ) (ts : Trees) → AreDistinct ts → 0 < count i ts → LabelSteps u w o i ts
label-steps u w o i no_trees d h = absurd (omega arith)
label-steps u w o i (tree c bs cs rest) d h =
    ⊎_elim (λ t. inl (rw t.0 refl, (let one : 0 < count i (tree c bs cs no_trees) = rw t.0 (omega arith) in label-here u w i c bs cs rest one ∙ rw t.0 (ap (λ j. u j ∷ []) (sym t.1)))))
    (λ t. (let z = rw t.0 at h in
    ⊎_elim (λ v. step-bs u w c bs cs rest d o i v.1 (label-steps w w (Some c.identity) i bs (λ j. let y = d j in omega arith) v.1))
    (λ v. ⊎_elim (λ x. step-cs u w c bs cs rest d o i x.1 (label-steps w w (Some c.identity) i cs (λ j. let y = d j in omega arith) x.1))
    (λ x. step-rest u w c bs cs rest d o i (omega arith) (label-steps u w o i rest (λ j. let y = d j in omega arith) (omega arith))) (any-tells (count i cs)))
    (any-tells (count i bs)))) (eqb_tells i c.identity)

-- ---- two nodes have two labels
pub seen-other : (a b : ℕ) (xs : List ℕ) → a ≢ b → seen a b xs ≡ Some false → seen b a xs ≡ Some true
seen-other a b [] ne h = cc
seen-other a b (x ∷ xs) ne h =
    ⊎_elim (λ t. (let apart : eqb x a ≡ false = ⊎_elim (λ v. absurd (ne (sym v.1 ∙ t.1))) (λ v. v.0) (eqb_tells x a) in rw (apart, t.0) refl))
    (λ t. (let z = rw t.0 at h in ⊎_elim (λ v. (let y = rw v.0 at z in cc)) (λ v. (let y = rw v.0 at z in rw (v.0, t.0) (seen-other a b xs ne y))) (eqb_tells x a))) (eqb_tells x b)

pub labels-apart : (w : ℕ → ℕ) (a b : ℕ) (ts : Trees) → AreDistinct ts → Ascends (λ i. i) (roots ts) → AreNumbered w ts → 0 < count a ts → 0 < count b ts → a ≢ b → label_of w a ts ≢ label_of w b ts
labels-apart w a b ts d s n h k ne same =
    let l = label_of w a ts in
    let ab : seen a b (identities ts) ≡ Some false = seen-by-labels (λ i. i) w a b ts d s n h k ∙ ap Some (ap (lists_before l) (sym same) ∙ list-same l) in
    let ba : seen b a (identities ts) ≡ Some false = seen-by-labels (λ i. i) w b a ts d s n k h ∙ ap Some (ap (λ m. lists_before m l) (sym same) ∙ list-same l) in
    let z : Some false ≡ Some true = sym ba ∙ seen-other a b (identities ts) ne ab in cc

-- ---- what going up does to the order of two nodes
pub up-label : (w : ℕ → ℕ) (i p : ℕ) (ts : Trees) → AreDistinct ts → 0 < count i ts → parent_of i ts ≡ Some p → (0 < count p ts) × (label_of w i ts ≡ label_of w p ts ++ w i ∷ [])
up-label w i p ts d h is =
    ⊎_elim (λ l. (let z : None ≡ Some p = sym l.0 ∙ is in cc))
    (λ r. (let same : r.0 ≡ p = (let z : Some r.0 ≡ Some p = sym r.1.parent ∙ is in cc) in rw (← same) (r.1.there, r.1.label))) (label-steps (λ i. i) w None i ts d h)

module _ (w : ℕ → ℕ) (ts : Trees) (o : Orders w ts) where
  pub by-labels : (a b : ℕ) → 0 < count a ts → 0 < count b ts → precedes a b ts ≡ lists_before (label_of w a ts) (label_of w b ts)
  by-labels a b h k = precedes-by-labels w a b ts o.distinct o.roots o.below h k

  -- from the deeper node to its parent, where that is not the other
  pub order-lift : (x p y : ℕ) → 0 < count x ts → 0 < count y ts → parent_of x ts ≡ Some p → depth_of y ts ≤ depth_of p ts → y ≢ p → (precedes x y ts ≡ precedes p y ts) × (precedes y x ts ≡ precedes y p ts)
  order-lift x p y h k is deep ne =
      let up = up-label w x p ts o.distinct h is in
      let lp = label_of w p ts in
      let ly = label_of w y ts in
      let len : length ly ≤ length lp = (let a = label-length (λ i. i) w p ts up.0 in let b = label-length (λ i. i) w y ts k in omega arith) in
      let last = list-last (w x) lp ly len (λ same. labels-apart w p y ts o.distinct o.roots o.below up.0 k (λ e. ne (sym e)) same) in
      (by-labels x y h k ∙ ap (λ l. lists_before l ly) up.1 ∙ last.0 ∙ sym (by-labels p y up.0 k), by-labels y x k h ∙ ap (lists_before ly) up.1 ∙ last.1 ∙ sym (by-labels y p k up.0))

  -- nodes of one parent
  pub order-siblings : (x y p : ℕ) → 0 < count x ts → 0 < count y ts → parent_of x ts ≡ Some p → parent_of y ts ≡ Some p → precedes x y ts ≡ ltb (w x) (w y)
  order-siblings x y p h k is js =
      let up = up-label w x p ts o.distinct h is in
      let vp = up-label w y p ts o.distinct k js in
      by-labels x y h k ∙ ap (λ l. lists_before l (label_of w y ts)) up.1 ∙ ap (lists_before (label_of w p ts ++ w x ∷ [])) vp.1 ∙ list-siblings (w x) (w y) (label_of w p ts)

  -- a node and its parent
  pub order-parent : (x p : ℕ) → 0 < count x ts → parent_of x ts ≡ Some p → (precedes p x ts ≡ true) × (precedes x p ts ≡ false)
  order-parent x p h is =
      let up = up-label w x p ts o.distinct h is in
      let lp = label_of w p ts in
      let begins = list-begins (w x) lp in
      (by-labels p x up.0 h ∙ ap (lists_before lp) up.1 ∙ begins.0, by-labels x p h up.0 ∙ ap (λ l. lists_before l lp) up.1 ∙ begins.1)

  -- from two equally deep nodes to their parents, where those differ
  pub order-both : (x y p q : ℕ) → 0 < count x ts → 0 < count y ts → parent_of x ts ≡ Some p → parent_of y ts ≡ Some q → depth_of p ts ≡ depth_of q ts → p ≢ q → precedes x y ts ≡ precedes p q ts
  order-both x y p q h k is js level ne =
      let up = up-label w x p ts o.distinct h is in
      let vp = up-label w y q ts o.distinct k js in
      let len : length (label_of w p ts) ≡ length (label_of w q ts) = (let a = label-length (λ i. i) w p ts up.0 in let b = label-length (λ i. i) w q ts vp.0 in omega arith) in
      by-labels x y h k ∙ ap (λ l. lists_before l (label_of w y ts)) up.1 ∙ ap (lists_before (label_of w p ts ++ w x ∷ [])) vp.1
      ∙ list-both (w x) (w y) (label_of w p ts) (label_of w q ts) len (labels-apart w p q ts o.distinct o.roots o.below up.0 vp.0 ne) ∙ sym (by-labels p q up.0 vp.0)

  -- no node comes before itself
  pub order-self : (a : ℕ) → 0 < count a ts → precedes a a ts ≡ false
  order-self a h = by-labels a a h h ∙ list-same (label_of w a ts)
