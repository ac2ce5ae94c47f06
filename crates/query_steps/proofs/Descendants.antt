-- What stands below a node.
use Prim.Native.Nat.{zero, suc}
use Rattle.std.proofs.Common.{◌≡◌, ℕ, ◌+◌, ◌≤◌, ◌<◌, Bool, true, false, not, ◌&&◌, ◌||◌, List, [], ◌∷◌, ◌++◌, filter, cond, eqb, refl, ap, sym, ◌∙◌, arith, ⊎_elim, ◌⊎◌, inl, inr, Option, Some, None, IsSome, subst}
use Rattle.std.proofs.lemmas.Bool.Decides.{eqb_tells}
use Rattle.std.proofs.lemmas.List.Elements.{filter-append}
use Rattle.std.proofs.lemmas.List.Sums.{sum_by-cons}
use Rattle.std.proofs.lemmas.Option.{same_Some}
use Rattle.data_model.specs.Changes.{pick}
use Rattle.data_model.specs.Trees.{Trees, no_trees, tree, Content, Place, first, find, find_below, parent_of, children_at, children_of, attributes_at, attributes_of, roots, count, size, height}
use Rattle.data_model.specs.Order.{identities}
use Rattle.data_model.specs.Walks.{held, depth_of}
use Rattle.data_model.specs.Axes.{is_in, is_some_attribute, is_some_attribute_at, is_parent, is_ancestor, is_descendant, on_axis}
use Rattle.data_model.specs.declared.axis.Axis.TheVariants.{Descendant, DescendantOrSelf}
use Rattle.data_model.proofs.Weights.{eqb-same, height-le}
use Rattle.data_model.proofs.Climbs.{AreDistinct, any-tells, find-absent, find-present, first-some}
use Rattle.data_model.proofs.Firsts.{held-append, held-identities, identities-tree}
use Rattle.trees.proofs.CallerLemmas.{picked-place}
use Rattle.node_table.proofs.Axes.{Among, in-yes, in-held, filter-same, filter-among, parent-lists, listed-parent, child-no-attribute, ancestor-up, ancestor-down}
use Rattle.query_steps.specs.Below.{counted_below, levels_below}
use Rattle.query_steps.proofs.Lists.{same-tests, filter-both, among-later, among-after, among-before, among-same, among-first, among-rest, among-first-filter, in-filter, eqb-turned, and-turned}
use Rattle.query_steps.proofs.Ancestors.{parent-is, held-once, up}

-- ---- trees as parts of others
abbrev place_of : Option ℕ → Content → Trees → Trees → Place
place_of p c bs cs = record { parent = p; content = c; attributes = bs; children = cs }

-- each node of the trees us, which stand below p, has its place in the trees ts
unfoldable pub Places : Trees → Option ℕ → Trees → Type 0
Places ts p no_trees = Unit {0}
Places ts p (tree c bs cs rest) = (find c.identity ts ≡ Some (place_of p c bs cs)) × Places ts (Some c.identity) bs × Places ts (Some c.identity) cs × Places ts p rest

places-found : (ts : Trees) (p : Option ℕ) (us : Trees) → AreDistinct us → ((i : ℕ) → 0 < count i us → find i ts ≡ find_below p i us) → Places ts p us
unfolding Places
places-found ts p no_trees d same = tt
places-found ts p (tree c bs cs rest) d same =
    let q : Option ℕ = Some c.identity in
    let other : (i : ℕ) → 0 < count i bs + count i cs + count i rest → eqb i c.identity ≡ false = λ i h. ⊎_elim (λ t. (let z = rw t.0 at (d i) in absurd (omega arith))) (λ t. t.0) (eqb_tells i c.identity) in (
      same c.identity (rw (eqb-same c.identity) (omega arith)) ∙ rw (eqb-same c.identity) refl,
      places-found ts q bs (λ i. (let l = d i in omega arith))
          (λ i h. same i (omega arith) ∙ rw (other i (omega arith)) (first-some (find_below q i bs) (first (find_below q i cs) (find_below p i rest)) (find-present q i bs h))),
      places-found ts q cs (λ i. (let l = d i in omega arith))
          (λ i h. (let none : count i bs ≡ 0 = (let l = d i in omega arith) in
          same i (omega arith) ∙ rw (other i (omega arith), find-absent q i bs none) (first-some (find_below q i cs) (find_below p i rest) (find-present q i cs h)))),
      places-found ts p rest (λ i. (let l = d i in omega arith))
          (λ i h. (let nb : count i bs ≡ 0 = (let l = d i in omega arith) in
          let nc : count i cs ≡ 0 = (let l = d i in omega arith) in
          same i (omega arith) ∙ rw (other i (omega arith), find-absent q i bs nb, find-absent q i cs nc) refl)),
    )

pub all-placed : (ts : Trees) → AreDistinct ts → Places ts None ts
all-placed ts d = places-found ts None ts d (λ i h. refl)

first-cases : (a b : Option Place) (x : Place) → first a b ≡ Some x → (a ≡ Some x) ⊎ (b ≡ Some x)
first-cases None b x h = inr h
first-cases (Some y) b x h = inl h

-- what stands below a node, in the trees in which it is found
record Found (ts us : Trees) (a : ℕ) (x : Place) : Type 0 where
  attributes : Places ts (Some a) x.attributes
  children : Places ts (Some a) x.children
  among : Among (a ∷ identities x.attributes ++ identities x.children) (identities us)
  few : size x.attributes + size x.children < size us

found-in : (ts : Trees) (p : Option ℕ) (us : Trees) (a : ℕ) (x : Place) → Places ts p us → find_below p a us ≡ Some x → Found ts us a x
unfolding Places
found-in ts p no_trees a x h is = cc
found-in ts p (tree c bs cs rest) a x h is =
    let xs = identities bs in
    let ys = identities cs in
    let zs = identities rest in
    let ks = a ∷ identities x.attributes ++ identities x.children in
    let listed : Among ks (c.identity ∷ ((xs ++ ys) ++ zs)) → Among ks (identities (tree c bs cs rest)) = (let P : List ℕ → Type 0 = Among ks in subst P (sym (identities-tree c bs cs rest))) in
    ⊎_elim
    (λ t. (let same : place_of p c bs cs ≡ x = same_Some (place_of p c bs cs) x (sym (rw t.0 refl) ∙ is) in
    let P : Place → Type 0 = λ y. Found ts (tree c bs cs rest) a y in
    let own : Among (a ∷ xs ++ ys) (identities (tree c bs cs rest)) = (let Q : List ℕ → Type 0 = Among (a ∷ xs ++ ys) in subst Q (sym (identities-tree c bs cs rest)) (let R : ℕ → Type 0 = λ j. Among (j ∷ xs ++ ys) (c.identity ∷ ((xs ++ ys) ++ zs)) in subst R (sym t.1) (among-first c.identity (xs ++ ys) ((xs ++ ys) ++ zs) (among-before (xs ++ ys) (xs ++ ys) zs (among-same (xs ++ ys)))))) in
    let T : ℕ → Type 0 = λ j. Places ts (Some j) bs × Places ts (Some j) cs in
    let both : T a = subst T (sym t.1) (h.1, h.2) in
    subst P same (record { attributes = both.0; children = both.1; among = own; few = omega arith })))
    (λ t. (let z = rw t.0 at is in
    ⊎_elim
    (λ u. (let f = found-in ts (Some c.identity) bs a x h.1 u in
    record { attributes = f.attributes; children = f.children; among = listed (among-later c.identity ks ((xs ++ ys) ++ zs) (among-before ks (xs ++ ys) zs (among-before ks xs ys f.among))); few = (let l = f.few in omega arith) }))
    (λ u. ⊎_elim
    (λ v. (let f = found-in ts (Some c.identity) cs a x h.2 v in
    record { attributes = f.attributes; children = f.children; among = listed (among-later c.identity ks ((xs ++ ys) ++ zs) (among-before ks (xs ++ ys) zs (among-after ks xs ys f.among))); few = (let l = f.few in omega arith) }))
    (λ v. (let f = found-in ts p rest a x h.3 v in
    record { attributes = f.attributes; children = f.children; among = listed (among-later c.identity ks ((xs ++ ys) ++ zs) (among-after ks (xs ++ ys) zs f.among)); few = (let l = f.few in omega arith) }))
    (first-cases (find_below (Some c.identity) a cs) (find_below p a rest) x u))
    (first-cases (find_below (Some c.identity) a bs) (first (find_below (Some c.identity) a cs) (find_below p a rest)) x z)))
    (eqb_tells a c.identity)

roots-count : (i : ℕ) (us : Trees) → held i (roots us) ≤ count i us
roots-count i no_trees = omega arith
roots-count i (tree c bs cs rest) = omega (arith, roots-count i rest)

-- ---- the walk down the levels
abbrev under : Bool → Trees → List ℕ
under l no_trees = []
under l (tree c bs cs rest) = cond l (c.identity ∷ []) [] ++ (under false bs ++ under true cs) ++ under l rest

walk-is : (n : ℕ) (ts : Trees) (p : Option ℕ) (us : Trees) (l : Bool) → Places ts p us → height us ≤ n → levels_below n ts l (roots us) ≡ under l us
unfolding Places
walk-is zero ts p no_trees l h k = refl
walk-is zero ts p (tree c bs cs rest) l h k = absurd (omega (arith, k))
walk-is (suc n) ts p no_trees l h k = refl
walk-is (suc n) ts p (tree c bs cs rest) l h k =
    let of_bs : attributes_of c.identity ts ≡ roots bs = ap attributes_at h.0 in
    let of_cs : children_of c.identity ts ≡ roots cs = ap children_at h.0 in
    let in_bs = ap (levels_below n ts false) of_bs ∙ walk-is n ts (Some c.identity) bs false h.1 (omega (arith, k)) in
    let in_cs = ap (levels_below n ts true) of_cs ∙ walk-is n ts (Some c.identity) cs true h.2 (omega (arith, k)) in
    let after = walk-is (suc n) ts p rest l h.3 (omega (arith, k)) in
    ap (λ xs. cond l (c.identity ∷ []) [] ++ (xs ++ levels_below n ts true (children_of c.identity ts)) ++ levels_below (suc n) ts l (roots rest)) in_bs
    ∙ ap (λ ys. cond l (c.identity ∷ []) [] ++ (under false bs ++ ys) ++ levels_below (suc n) ts l (roots rest)) in_cs
    ∙ ap (λ zs. cond l (c.identity ∷ []) [] ++ (under false bs ++ under true cs) ++ zs) after

-- the nodes of the lists of a node, which the walk down the levels counts
abbrev counted_at : ℕ → Trees → ℕ → ℕ
counted_at n ts i = counted_below n ts (attributes_of i ts) + counted_below n ts (children_of i ts)

-- the walk counts each node of the trees
walk-counts : (n : ℕ) (ts : Trees) (p : Option ℕ) (us : Trees) → Places ts p us → height us ≤ n → counted_below n ts (roots us) ≡ size us
unfolding Places
walk-counts zero ts p no_trees h k = refl
walk-counts zero ts p (tree c bs cs rest) h k = absurd (omega (arith, k))
walk-counts (suc n) ts p no_trees h k = refl
walk-counts (suc n) ts p (tree c bs cs rest) h k =
    let in_bs : counted_below n ts (attributes_of c.identity ts) ≡ size bs = ap (λ o. counted_below n ts (attributes_at o)) h.0 ∙ walk-counts n ts (Some c.identity) bs h.1 (omega (arith, k)) in
    let in_cs : counted_below n ts (children_of c.identity ts) ≡ size cs = ap (λ o. counted_below n ts (children_at o)) h.0 ∙ walk-counts n ts (Some c.identity) cs h.2 (omega (arith, k)) in
    let after = walk-counts (suc n) ts p rest h.3 (omega (arith, k)) in
    let all = sum_by-cons (counted_at n ts) c.identity (roots rest) in
    omega (arith, in_bs, in_cs, after, all)

module _ (ts : Trees) (d : AreDistinct ts) where
  -- an ancestor's parent is an ancestor
  through-by : (j a m : ℕ) → is_parent ts m a ≡ true → is_ancestor ts j m ≡ true → ((p : ℕ) → depth_of p ts < depth_of j ts → is_ancestor ts p m ≡ true → is_ancestor ts p a ≡ true) → is_ancestor ts j a ≡ true
  through-by j a m par anc further = ⊎_elim
      (λ l. ancestor-down ts d a j (inr (m, l, ancestor-down ts d a m (inl par))))
      (λ r. ancestor-down ts d a j (inr (r.0, r.1, further r.0 (up ts d j r.0 (parent-is (parent_of j ts) r.0 r.1)).2 r.2)))
      (ancestor-up ts d m j anc)

  through-to : (n j a m : ℕ) → depth_of j ts ≤ n → is_parent ts m a ≡ true → is_ancestor ts j m ≡ true → is_ancestor ts j a ≡ true
  through-to zero j a m deep par anc = through-by j a m par anc (λ p less h. absurd (omega (arith, deep, less)))
  through-to (suc n) j a m deep par anc = through-by j a m par anc (λ p less h. through-to n p a m (omega (arith, deep, less)) par h)

  through : (j a m : ℕ) → is_parent ts m a ≡ true → is_ancestor ts j m ≡ true → is_ancestor ts j a ≡ true
  through j a m par anc = through-to (depth_of j ts) j a m (omega arith) par anc

  -- a node that the one lists and the other has as an ancestor, or is
  abbrev Between : ℕ → ℕ → Type 0
  Between j a = (m : ℕ) × (is_parent ts m a ≡ true) × ((m ≡ j) ⊎ (is_ancestor ts j m ≡ true))

  -- between a node and one above it stands one that the latter lists
  down-by : (j a : ℕ) → is_ancestor ts j a ≡ true → ((p : ℕ) → depth_of p ts < depth_of j ts → is_ancestor ts p a ≡ true → Between p a) → Between j a
  down-by j a anc further = ⊎_elim
      (λ l. (j, l, inl refl))
      (λ r. (let s = further r.0 (up ts d j r.0 (parent-is (parent_of j ts) r.0 r.1)).2 r.2 in
      (s.0, s.1, ⊎_elim (λ same. inr (ancestor-down ts d s.0 j (inl (ap (is_parent ts j) same ∙ r.1)))) (λ above. inr (ancestor-down ts d s.0 j (inr (r.0, r.1, above)))) s.2)))
      (ancestor-up ts d a j anc)

  down-to : (n j a : ℕ) → depth_of j ts ≤ n → is_ancestor ts j a ≡ true → Between j a
  down-to zero j a deep anc = down-by j a anc (λ p less h. absurd (omega (arith, deep, less)))
  down-to (suc n) j a deep anc = down-by j a anc (λ p less h. down-to n p a (omega (arith, deep, less)) h)

  -- what a place lists
  lists-attributes : (c : ℕ) (x : Place) → find c ts ≡ Some x → (m : ℕ) → 0 < held m (roots x.attributes) → is_parent ts m c ≡ true
  lists-attributes c x is m h = let listed : held m (attributes_of c ts) ≡ held m (roots x.attributes) = ap (λ o. held m (attributes_at o)) is in listed-parent ts d c m (omega arith)

  lists-children : (c : ℕ) (x : Place) → find c ts ≡ Some x → (m : ℕ) → 0 < held m (roots x.children) → is_parent ts m c ≡ true
  lists-children c x is m h = let listed : held m (children_of c ts) ≡ held m (roots x.children) = ap (λ o. held m (children_at o)) is in listed-parent ts d c m (omega arith)

  listed-by : (c : ℕ) (x : Place) → find c ts ≡ Some x → (m : ℕ) → is_parent ts m c ≡ true → (0 < held m (roots x.attributes)) ⊎ (0 < held m (roots x.children))
  listed-by c x is m h = ⊎_elim
      (λ l. inr (let z = in-held m (children_of c ts) l in let listed : held m (children_of c ts) ≡ held m (roots x.children) = ap (λ o. held m (children_at o)) is in omega arith))
      (λ r. inl (let z = in-held m (attributes_of c ts) r in let listed : held m (attributes_of c ts) ≡ held m (roots x.attributes) = ap (λ o. held m (attributes_at o)) is in omega arith))
      (parent-lists ts d c m h)

  -- what stands in trees that a node lists has it as an ancestor
  below-has : (us : Trees) (q j : ℕ) → Places ts (Some q) us → ((m : ℕ) → 0 < held m (roots us) → is_parent ts m q ≡ true) → 0 < count j us → is_ancestor ts j q ≡ true
  unfolding Places
  below-has no_trees q j h listed k = absurd (omega arith)
  below-has (tree c bs cs rest) q j h listed k =
      let own : is_parent ts c.identity q ≡ true = listed c.identity (rw (eqb-same c.identity) (omega arith)) in
      ⊎_elim
      (λ t. ancestor-down ts d q j (inl (ap (λ i. is_parent ts i q) t.1 ∙ own)))
      (λ t. (let z = rw t.0 at k in
      ⊎_elim
      (λ u. through j q c.identity own (below-has bs c.identity j h.1 (lists-attributes c.identity (place_of (Some q) c bs cs) h.0) u.1))
      (λ u. ⊎_elim
      (λ v. through j q c.identity own (below-has cs c.identity j h.2 (lists-children c.identity (place_of (Some q) c bs cs) h.0) v.1))
      (λ v. (let nb : count j bs ≡ 0 = u.1 in let nc : count j cs ≡ 0 = v.1 in below-has rest q j h.3 (λ m l. listed m (omega arith)) (omega arith)))
      (any-tells (count j cs)))
      (any-tells (count j bs))))
      (eqb_tells j c.identity)

  -- what has a node of some trees as an ancestor stands in them
  has-below : (us : Trees) (p : Option ℕ) (m j : ℕ) → Places ts p us → 0 < count m us → is_ancestor ts j m ≡ true → 0 < count j us
  unfolding Places
  has-below no_trees p m j h k anc = absurd (omega arith)
  has-below (tree c bs cs rest) p m j h k anc =
      let in_bs : (i : ℕ) → 0 < count i bs → (i ≡ j) ⊎ (is_ancestor ts j i ≡ true) → 0 < count j bs = λ i there o. ⊎_elim (λ same. (let z : count i bs ≡ count j bs = ap (λ x. count x bs) same in omega arith)) (λ a. has-below bs (Some c.identity) i j h.1 there a) o in
      let in_cs : (i : ℕ) → 0 < count i cs → (i ≡ j) ⊎ (is_ancestor ts j i ≡ true) → 0 < count j cs = λ i there o. ⊎_elim (λ same. (let z : count i cs ≡ count j cs = ap (λ x. count x cs) same in omega arith)) (λ a. has-below cs (Some c.identity) i j h.2 there a) o in
      ⊎_elim
      (λ t. (let s = down-to (depth_of j ts) j c.identity (omega arith) (ap (is_ancestor ts j) (sym t.1) ∙ anc) in
      ⊎_elim
      (λ u. (let e = roots-count s.0 bs in let y = in_bs s.0 (omega arith) s.2 in omega arith))
      (λ u. (let e = roots-count s.0 cs in let y = in_cs s.0 (omega arith) s.2 in omega arith))
      (listed-by c.identity (place_of p c bs cs) h.0 s.0 s.1)))
      (λ t. (let z = rw t.0 at k in
      ⊎_elim
      (λ u. (let y = in_bs m u.1 (inr anc) in omega arith))
      (λ u. ⊎_elim
      (λ v. (let y = in_cs m v.1 (inr anc) in omega arith))
      (λ v. (let nb : count m bs ≡ 0 = u.1 in let nc : count m cs ≡ 0 = v.1 in let y = has-below rest p m j h.3 (omega arith) anc in omega arith))
      (any-tells (count m cs)))
      (any-tells (count m bs))))
      (eqb_tells m c.identity)

  attributes-are : (c : ℕ) (x : Place) → find c ts ≡ Some x → (m : ℕ) → 0 < held m (roots x.attributes) → is_some_attribute ts m ≡ true
  attributes-are c x is m h =
      let listed : held m (attributes_of c ts) ≡ held m (roots x.attributes) = ap (λ o. held m (attributes_at o)) is in
      ap (is_some_attribute_at ts m) (parent-is (parent_of m ts) c (lists-attributes c x is m h)) ∙ in-yes m (attributes_of c ts) (omega arith)

  children-are-not : (c : ℕ) (x : Place) → find c ts ≡ Some x → (m : ℕ) → 0 < held m (roots x.children) → is_some_attribute ts m ≡ false
  children-are-not c x is m h =
      let listed : held m (children_of c ts) ≡ held m (roots x.children) = ap (λ o. held m (children_at o)) is in
      ap (is_some_attribute_at ts m) (parent-is (parent_of m ts) c (lists-children c x is m h)) ∙ child-no-attribute ts d c m (in-yes m (children_of c ts) (omega arith))

  abbrev is_other : ℕ → Bool
  is_other j = not (is_some_attribute ts j)

  -- the nodes of trees but attributes
  under-is : (us : Trees) (p : Option ℕ) (l : Bool) → Places ts p us → ((m : ℕ) → 0 < held m (roots us) → is_some_attribute ts m ≡ not l) → filter is_other (identities us) ≡ under l us
  unfolding Places
  under-is no_trees p l h all = refl
  under-is (tree c bs cs rest) p l h all =
      let in_bs = under-is bs (Some c.identity) false h.1 (attributes-are c.identity (place_of p c bs cs) h.0) in
      let in_cs = under-is cs (Some c.identity) true h.2 (children-are-not c.identity (place_of p c bs cs) h.0) in
      let after = under-is rest p l h.3 (λ m k. all m (omega arith)) in
      ap (filter is_other) (identities-tree c bs cs rest)
      ∙ filter-append is_other ((c.identity ∷ identities bs) ++ identities cs) (identities rest)
      ∙ ap (λ xs. xs ++ filter is_other (identities rest)) (filter-append is_other (c.identity ∷ identities bs) (identities cs))
      ∙ own l (all c.identity (rw (eqb-same c.identity) (omega arith)))
      ∙ ap (λ xs. cond l (c.identity ∷ []) [] ++ (xs ++ filter is_other (identities cs)) ++ filter is_other (identities rest)) in_bs
      ∙ ap (λ xs. cond l (c.identity ∷ []) [] ++ (under false bs ++ xs) ++ filter is_other (identities rest)) in_cs
      ∙ ap (λ xs. cond l (c.identity ∷ []) [] ++ (under false bs ++ under true cs) ++ xs) after
    where
      own : (l : Bool) → is_some_attribute ts c.identity ≡ not l
          → (filter is_other (c.identity ∷ identities bs) ++ filter is_other (identities cs)) ++ filter is_other (identities rest) ≡ cond l (c.identity ∷ []) [] ++ (filter is_other (identities bs) ++ filter is_other (identities cs)) ++ filter is_other (identities rest)
      own true e = rw e refl
      own false e = rw e refl

  module _ (a : ℕ) (x : Place) (is : find a ts ≡ Some x) where
    abbrev bs : Trees
    bs = x.attributes

    abbrev cs : Trees
    cs = x.children

    abbrev all : List ℕ
    all = identities bs ++ identities cs

    of : Found ts ts a x
    of = found-in ts None ts a x (all-placed ts d) is

    held-all : (j : ℕ) → held j all ≡ count j bs + count j cs
    held-all j = let e = held-append j (identities bs) (identities cs) in let u = held-identities j bs in let v = held-identities j cs in omega arith

    -- the nodes that have it as an ancestor
    below-is : (j : ℕ) → is_in j all ≡ is_ancestor ts j a
    below-is j = same-tests (is_in j all) (is_ancestor ts j a)
        (λ h. (let e = held-all j in let l = in-held j all h in
        ⊎_elim (λ t. below-has bs a j of.attributes (lists-attributes a x is) t.1) (λ t. (let none : count j bs ≡ 0 = t.1 in below-has cs a j of.children (lists-children a x is) (omega arith))) (any-tells (count j bs))))
        (λ h. (let s = down-to (depth_of j ts) j a (omega arith) h in
        let e = held-all j in
        in-yes j all (⊎_elim
        (λ l. (let r = roots-count s.0 bs in let y = inside bs of.attributes s.0 (omega arith) s.2 in omega arith))
        (λ l. (let r = roots-count s.0 cs in let y = inside cs of.children s.0 (omega arith) s.2 in omega arith))
        (listed-by a x is s.0 s.1))))
      where
        inside : (us : Trees) → Places ts (Some a) us → (m : ℕ) → 0 < count m us → (m ≡ j) ⊎ (is_ancestor ts j m ≡ true) → 0 < count j us
        inside us h m there o = ⊎_elim (λ same. (let z : count m us ≡ count j us = ap (λ i. count i us) same in omega arith)) (λ anc. has-below us (Some a) m j h there anc) o

    -- those of them that are descendants
    under-all : filter is_other all ≡ under false bs ++ under true cs
    under-all =
        filter-append is_other (identities bs) (identities cs)
        ∙ ap (λ xs. xs ++ filter is_other (identities cs)) (under-is bs (Some a) false of.attributes (attributes-are a x is))
        ∙ ap (λ xs. under false bs ++ xs) (under-is cs (Some a) true of.children (children-are-not a x is))

    few-levels : (height bs ≤ size ts) × (height cs ≤ size ts)
    few-levels = let l = of.few in let b = height-le bs in let c = height-le cs in (omega arith, omega arith)

    abbrev walked : List ℕ
    walked = levels_below (size ts) ts false (attributes_of a ts) ++ levels_below (size ts) ts true (children_of a ts)

    walked-is : walked ≡ under false bs ++ under true cs
    walked-is =
        ap (λ o. levels_below (size ts) ts false (attributes_at o) ++ levels_below (size ts) ts true (children_at o)) is
        ∙ ap (λ xs. xs ++ levels_below (size ts) ts true (roots cs)) (walk-is (size ts) ts (Some a) bs false of.attributes few-levels.0)
        ∙ ap (λ xs. under false bs ++ xs) (walk-is (size ts) ts (Some a) cs true of.children few-levels.1)

    -- the nodes of its tree are counted
    pub all-counted : (1 + counted_at (size ts) ts a ≡ size (pick a ts)) × (size (pick a ts) ≤ size ts)
    all-counted =
        let in_bs : counted_below (size ts) ts (attributes_of a ts) ≡ size bs = ap (λ o. counted_below (size ts) ts (attributes_at o)) is ∙ walk-counts (size ts) ts (Some a) bs of.attributes few-levels.0 in
        let in_cs : counted_below (size ts) ts (children_of a ts) ≡ size cs = ap (λ o. counted_below (size ts) ts (children_at o)) is ∙ walk-counts (size ts) ts (Some a) cs of.children few-levels.1 in
        let whole : size (pick a ts) ≡ 1 + size bs + size cs + 0 = ap size (picked-place None a ts x d is) in
        let few = of.few in
        (omega (arith, in_bs, in_cs, whole), omega (arith, whole, few))

    all-among : Among all (identities ts)
    all-among = among-rest a all (identities ts) of.among

    pub on-descendants : on_axis Descendant ts a ≡ walked
    on-descendants =
        sym (filter-both is_other (λ j. is_ancestor ts j a) (identities ts))
        ∙ ap (filter is_other) (filter-same (λ j. is_ancestor ts j a) (λ j. is_in j all) (identities ts) (λ j _. sym (below-is j)) ∙ filter-among all (identities ts) (held-once ts d) all-among)
        ∙ under-all ∙ sym walked-is

    own-among : Among (a ∷ filter is_other all) (identities ts)
    own-among = among-first-filter is_other a all (identities ts) of.among

    -- a node that is a descendant, or the node itself
    in-own : (j : ℕ) → (eqb a j || is_descendant ts a j) ≡ is_in j (a ∷ filter is_other all)
    in-own j =
        ap (λ e. e || (is_ancestor ts j a && is_other j)) (eqb-turned a j)
        ∙ ap (λ r. eqb j a || r) (and-turned (is_ancestor ts j a) (is_other j) ∙ ap (λ v. is_other j && v) (sym (below-is j)) ∙ sym (in-filter is_other j all))

    pub on-descendants-or-self : on_axis DescendantOrSelf ts a ≡ a ∷ walked
    on-descendants-or-self =
        filter-same (λ j. eqb a j || is_descendant ts a j) (λ j. is_in j (a ∷ filter is_other all)) (identities ts) (λ j _. in-own j)
        ∙ filter-among (a ∷ filter is_other all) (identities ts) (held-once ts d) own-among
        ∙ ap (λ xs. a ∷ xs) (under-all ∙ sym walked-is)

some-place : (o : Option Place) → IsSome o → (x : Place) × (o ≡ Some x)
some-place None h = cc
some-place (Some x) h = (x, refl)

-- the descendants of a node that stands
pub descendants-walked : (ts : Trees) → AreDistinct ts → (a : ℕ) → IsSome (find a ts)
    → on_axis Descendant ts a ≡ levels_below (size ts) ts false (attributes_of a ts) ++ levels_below (size ts) ts true (children_of a ts)
descendants-walked ts d a there = let p = some-place (find a ts) there in on-descendants ts d a p.0 p.1

pub descendants-or-self-walked : (ts : Trees) → AreDistinct ts → (a : ℕ) → IsSome (find a ts)
    → on_axis DescendantOrSelf ts a ≡ a ∷ (levels_below (size ts) ts false (attributes_of a ts) ++ levels_below (size ts) ts true (children_of a ts))
descendants-or-self-walked ts d a there = let p = some-place (find a ts) there in on-descendants-or-self ts d a p.0 p.1

-- the nodes of the tree of a node that stands, which are no more than all nodes
pub descendants-counted : (ts : Trees) → AreDistinct ts → (a : ℕ) → IsSome (find a ts) → (n : ℕ) (bs cs : List ℕ) → n ≡ size ts → bs ≡ attributes_of a ts → cs ≡ children_of a ts
    → (1 + (counted_below n ts bs + counted_below n ts cs) ≡ size (pick a ts)) × (size (pick a ts) ≤ n)
descendants-counted ts d a there n bs cs long of_bs of_cs = let p = some-place (find a ts) there in rw (long, of_bs, of_cs) (all-counted ts d a p.0 p.1)
