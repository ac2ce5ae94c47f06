-- What stands above a node.
use Prim.Native.Nat.{zero, suc}
use Rattle.std.proofs.Common.{◌≡◌, ℕ, ◌≤◌, ◌<◌, Bool, true, false, ◌||◌, List, [], ◌∷◌, ◌++◌, ◌+◌, length, eqb, refl, ap, sym, ◌∙◌, arith, ⊎_elim, ◌⊎◌, inl, inr, Option, Some, None, IsSome, subst}
use Rattle.std.proofs.lemmas.Bool.Decides.{eqb_tells}
use Rattle.std.proofs.lemmas.List.{length-append}
use Rattle.std.proofs.lemmas.List.Folds.{list_any-append}
use Rattle.data_model.specs.Trees.{Trees, no_trees, tree, Place, find, parent_at, parent_of, count}
use Rattle.data_model.specs.Order.{identities}
use Rattle.data_model.specs.Paths.{path_of}
use Rattle.data_model.specs.Walks.{held, depth_of}
use Rattle.data_model.specs.Axes.{is_in, is_parent, is_parent_at, is_ancestor, on_axis}
use Rattle.data_model.specs.declared.axis.Axis.TheVariants.{Ancestor, Parent}
use Rattle.data_model.proofs.Weights.{eqb-same}
use Rattle.data_model.proofs.Climbs.{AreDistinct, any-tells, climb-up}
use Rattle.data_model.proofs.Firsts.{held-identities, identities-tree}
use Rattle.data_model.proofs.Paths.{path-up, path-top}
use Rattle.node_table.proofs.Axes.{Among, filter-same, filter-among, ancestor-up, ancestor-down, on-self}
use Rattle.query_steps.proofs.Lists.{same-tests, filter-no, eqb-turned, or-turned, among-later, among-after, among-before, among-first}

pub parent-is : (o : Option ℕ) (a : ℕ) → is_parent_at o a ≡ true → o ≡ Some a
parent-is None a h = cc
parent-is (Some p) a h = ⊎_elim (λ t. ap Some t.1) (λ t. (let z : false ≡ true = sym t.0 ∙ h in cc)) (eqb_tells p a)

pub is-parent : (o : Option ℕ) (a : ℕ) → o ≡ Some a → is_parent_at o a ≡ true
is-parent o a h = rw h (eqb-same a)

pub parent-found : (o : Option Place) (a : ℕ) → parent_at o ≡ Some a → IsSome o
parent-found None a h = cc
parent-found (Some x) a h = refl

pub option-cases : (o : Option ℕ) → (o ≡ None) ⊎ ((p : ℕ) × (o ≡ Some p))
option-cases None = inl refl
option-cases (Some p) = inr (p, refl)

or-cases : (x y : Bool) → (x || y) ≡ true → (x ≡ true) ⊎ (y ≡ true)
or-cases true y h = inl refl
or-cases false y h = inr h

or-last : (x y : Bool) → y ≡ true → (x || y) ≡ true
or-last true y h = refl
or-last false y h = h

-- the way down to a node stands among all nodes
path-among : (i : ℕ) (ts : Trees) → Among (path_of i ts) (identities ts)
unfolding Among
path-among i no_trees = tt
path-among i (tree c bs cs rest) =
    let xs = identities bs in
    let ys = identities cs in
    let zs = identities rest in
    let P : List ℕ → Type 0 = Among (path_of i (tree c bs cs rest)) in
    subst P (sym (identities-tree c bs cs rest))
    (⊎_elim
    (λ t. rw t.0 (among-first c.identity [] ((xs ++ ys) ++ zs) tt))
    (λ t. rw t.0
    (⊎_elim
    (λ u. rw u.0 (among-first c.identity (path_of i bs) ((xs ++ ys) ++ zs) (among-before (path_of i bs) (xs ++ ys) zs (among-before (path_of i bs) xs ys (path-among i bs)))))
    (λ u. rw u.0
    (⊎_elim
    (λ v. rw v.0 (among-first c.identity (path_of i cs) ((xs ++ ys) ++ zs) (among-before (path_of i cs) (xs ++ ys) zs (among-after (path_of i cs) xs ys (path-among i cs)))))
    (λ v. rw v.0 (among-later c.identity (path_of i rest) ((xs ++ ys) ++ zs) (among-after (path_of i rest) (xs ++ ys) zs (path-among i rest))))
    (any-tells (count i cs))))
    (any-tells (count i bs))))
    (eqb_tells i c.identity))

module _ (ts : Trees) (d : AreDistinct ts) where
  pub held-once : (i : ℕ) → held i (identities ts) ≤ 1
  held-once i = let e = held-identities i ts in let l = d i in omega arith

  -- a node that has a parent stands, and so does that one
  pub up : (a p : ℕ) → parent_of a ts ≡ Some p → IsSome (find a ts) × IsSome (find p ts) × (depth_of p ts < depth_of a ts)
  up a p is = let there = parent-found (find a ts) p is in let r = climb-up a p ts d there is in (there, r.0, r.2)

  pub ancestor-none : (a b : ℕ) → parent_of a ts ≡ None → is_ancestor ts a b ≡ false
  ancestor-none a b none = same-tests (is_ancestor ts a b) false
      (λ h. ⊎_elim (λ l. (let z : None ≡ Some b = sym none ∙ parent-is (parent_of a ts) b l in cc)) (λ r. (let z : None ≡ Some r.0 = sym none ∙ parent-is (parent_of a ts) r.0 r.1 in cc)) (ancestor-up ts d b a h))
      (λ h. (let z : false ≡ true = h in cc))

  pub ancestor-some : (a b p : ℕ) → parent_of a ts ≡ Some p → is_ancestor ts a b ≡ (eqb p b || is_ancestor ts p b)
  ancestor-some a b p is = same-tests (is_ancestor ts a b) (eqb p b || is_ancestor ts p b)
      (λ h. ⊎_elim
      (λ l. (let z : Some p ≡ Some b = sym is ∙ parent-is (parent_of a ts) b l in let same : p ≡ b = cc in rw same (rw (eqb-same b) refl)))
      (λ r. (let z : Some p ≡ Some r.0 = sym is ∙ parent-is (parent_of a ts) r.0 r.1 in let same : r.0 ≡ p = cc in
      or-last (eqb p b) (is_ancestor ts p b) (ap (λ j. is_ancestor ts j b) (sym same) ∙ r.2)))
      (ancestor-up ts d b a h))
      (λ h. ⊎_elim
      (λ l. ancestor-down ts d b a (inl (is-parent (parent_of a ts) b (is ∙ parent-is (Some p) b l))))
      (λ r. ancestor-down ts d b a (inr (p, is-parent (parent_of a ts) p is, r)))
      (or-cases (eqb p b) (is_ancestor ts p b) h))

  -- what the way down to a node has
  in-path-by : (a b : ℕ) → IsSome (find a ts) → ((p : ℕ) → IsSome (find p ts) → depth_of p ts < depth_of a ts → is_in b (path_of p ts) ≡ (eqb p b || is_ancestor ts p b)) → is_in b (path_of a ts) ≡ (eqb a b || is_ancestor ts a b)
  in-path-by a b there above = ⊎_elim
      (λ none. ap (is_in b) (path-top a ts d there none).0 ∙ one ∙ or-turned false (eqb a b) ∙ ap (λ r. eqb a b || r) (sym (ancestor-none a b none)))
      (λ s. (let step = path-up a s.0 ts d there s.1 in
      let less = step.1 in
      ap (is_in b) step.2 ∙ list_any-append (λ j. eqb b j) (path_of s.0 ts) (a ∷ []) ∙ ap (λ r. r || is_in b (a ∷ [])) (above s.0 step.0 (omega arith)) ∙ ap (λ r. r || is_in b (a ∷ [])) (sym (ancestor-some a b s.0 s.1)) ∙ or-turned (is_ancestor ts a b) (is_in b (a ∷ [])) ∙ ap (λ r. r || is_ancestor ts a b) one))
      (option-cases (parent_of a ts))
    where
      one : is_in b (a ∷ []) ≡ eqb a b
      one = or-turned (eqb b a) false ∙ eqb-turned b a

  in-path : (n a b : ℕ) → IsSome (find a ts) → depth_of a ts ≤ n → is_in b (path_of a ts) ≡ (eqb a b || is_ancestor ts a b)
  in-path zero a b there deep = in-path-by a b there (λ p here less. absurd (omega (arith, less, deep)))
  in-path (suc n) a b there deep = in-path-by a b there (λ p here less. in-path n p b here (omega (arith, less, deep)))

  -- the ancestors of a node in document order: the way down to its parent
  pub ancestors-path : (a p : ℕ) → parent_of a ts ≡ Some p → on_axis Ancestor ts a ≡ path_of p ts
  ancestors-path a p is =
      let there = (up a p is).1 in
      filter-same (is_ancestor ts a) (λ b. is_in b (path_of p ts)) (identities ts) (λ b _. ancestor-some a b p is ∙ sym (in-path (depth_of p ts) p b there (omega arith)))
      ∙ filter-among (path_of p ts) (identities ts) held-once (path-among p ts)

  pub ancestors-none : (a : ℕ) → parent_of a ts ≡ None → on_axis Ancestor ts a ≡ []
  ancestors-none a none = filter-no (is_ancestor ts a) (identities ts) (λ b _. ancestor-none a b none)

  pub ancestors-up : (a p : ℕ) → parent_of a ts ≡ Some p → on_axis Ancestor ts a ≡ on_axis Ancestor ts p ++ p ∷ []
  ancestors-up a p is =
      let there = (up a p is).1 in
      ancestors-path a p is
      ∙ ⊎_elim (λ none. (path-top p ts d there none).0 ∙ ap (λ xs. xs ++ p ∷ []) (sym (ancestors-none p none)))
      (λ s. (path-up p s.0 ts d there s.1).2 ∙ ap (λ xs. xs ++ p ∷ []) (sym (ancestors-path p s.0 s.1)))
      (option-cases (parent_of p ts))

  -- one more than the parent has
  pub ancestors-more : (a p : ℕ) → parent_of a ts ≡ Some p → length (on_axis Ancestor ts a) ≡ length (on_axis Ancestor ts p) + 1
  ancestors-more a p is = ap length (ancestors-up a p is) ∙ length-append (on_axis Ancestor ts p) (p ∷ [])

  pub on-parent : (a p : ℕ) → parent_of a ts ≡ Some p → on_axis Parent ts a ≡ p ∷ []
  on-parent a p is = filter-same (is_parent ts a) (eqb p) (identities ts) (λ b _. ap (λ o. is_parent_at o b) is) ∙ on-self ts d p (up a p is).1

  pub on-no-parent : (a : ℕ) → parent_of a ts ≡ None → on_axis Parent ts a ≡ []
  on-no-parent a none = filter-no (is_parent ts a) (identities ts) (λ b _. ap (λ o. is_parent_at o b) none)
