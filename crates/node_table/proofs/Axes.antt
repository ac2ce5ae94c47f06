-- The axes of a step.
use Prim.Native.Nat.{zero, suc}
use Rattle.std.proofs.Common.{◌≡◌, ℕ, ◌+◌, ◌≤◌, ◌<◌, Bool, true, false, ◌||◌, List, [], ◌∷◌, ◌++◌, filter, cond, eqb, refl, ap, sym, ◌∙◌, arith, ⊎_elim, ◌⊎◌, inl, inr, Option, Some, None, IsSome, option_map, subst}
use Rattle.std.proofs.lemmas.Bool.{cases_lt}
use Rattle.std.proofs.lemmas.Bool.Decides.{eqb_tells}
use Rattle.data_model.specs.Trees.{Trees, no_trees, tree, Place, first, find, find_below, parent_at, parent_of, children_at, children_of, attributes_at, attributes_of, roots, count, size}
use Rattle.data_model.specs.Order.{identities}
use Rattle.data_model.specs.Walks.{held, depth_of}
use Rattle.node_table.specs.Flat.{Entry, Table, Holds, entry_of, entry_at, entry_in}
use Rattle.data_model.specs.Axes.{is_in, is_child, is_attribute, is_parent, is_parent_at, is_ancestor, rises_to, on_axis}
use Rattle.data_model.specs.declared.axis.Axis.TheVariants.{Child, Attribute, SelfAxis}
use Rattle.data_model.proofs.Weights.{eqb-same}
use Rattle.node_table.proofs.Tables.{Holds-same}
use Rattle.data_model.proofs.Climbs.{AreDistinct, any-tells, find-absent, find-present, first-some, there-counts, climb-up}
use Rattle.data_model.proofs.Firsts.{held-append, held-identities, identities-tree}
use Rattle.node_table.proofs.Entries.{parent-in, children-in, attributes-in}

-- ---- lists that stand in others, in their order
unfoldable pub Among : List ℕ → List ℕ → Type 0
Among [] xs = Unit {0}
Among (k ∷ ks) [] = ⊥
Among (k ∷ ks) (x ∷ xs) = ((k ≡ x) × Among ks xs) ⊎ Among (k ∷ ks) xs

Among-later : (x : ℕ) (ks xs : List ℕ) → Among ks xs → Among ks (x ∷ xs)
unfolding Among
Among-later x [] xs h = tt
Among-later x (k ∷ ks) xs h = inr h

Among-after : (ks ys xs : List ℕ) → Among ks xs → Among ks (ys ++ xs)
Among-after ks [] xs h = h
Among-after ks (y ∷ ys) xs h = Among-later y ks (ys ++ xs) (Among-after ks ys xs h)

Among-append : (ks ls xs ys : List ℕ) → Among ks xs → Among ls ys → Among (ks ++ ls) (xs ++ ys)
unfolding Among
Among-append [] ls xs ys h k = Among-after ls xs ys k
Among-append (j ∷ ks) ls [] ys h k = absurd h
Among-append (j ∷ ks) ls (x ∷ xs) ys h k = ⊎_elim (λ t. inl (t.0, Among-append ks ls xs ys t.1 k)) (λ t. inr (Among-append (j ∷ ks) ls xs ys t k)) h

Among-before : (ks xs ys : List ℕ) → Among ks xs → Among ks (xs ++ ys)
unfolding Among
Among-before [] xs ys h = tt
Among-before (j ∷ ks) [] ys h = absurd h
Among-before (j ∷ ks) (x ∷ xs) ys h = ⊎_elim (λ t. inl (t.0, Among-before ks xs ys t.1)) (λ t. inr (Among-before (j ∷ ks) xs ys t)) h

Among-left : (ks ls xs : List ℕ) → Among (ks ++ ls) xs → Among ks xs
unfolding Among
Among-left [] ls xs h = tt
Among-left (j ∷ ks) ls [] h = absurd h
Among-left (j ∷ ks) ls (x ∷ xs) h = ⊎_elim (λ t. inl (t.0, Among-left ks ls xs t.1)) (λ t. inr (Among-left (j ∷ ks) ls xs t)) h

Among-right : (ks ls xs : List ℕ) → Among (ks ++ ls) xs → Among ls xs
unfolding Among
Among-right [] ls xs h = h
Among-right (j ∷ ks) ls [] h = absurd h
Among-right (j ∷ ks) ls (x ∷ xs) h = Among-later x ls xs (⊎_elim (λ t. Among-right ks ls xs t.1) (λ t. Among-right (j ∷ ks) ls xs t) h)

held-among : (i : ℕ) (ks xs : List ℕ) → Among ks xs → held i ks ≤ held i xs
unfolding Among
held-among i [] xs h = omega arith
held-among i (k ∷ ks) [] h = absurd h
held-among i (k ∷ ks) (x ∷ xs) h =
    ⊎_elim (λ t. (let z = held-among i ks xs t.1 in let same : cond {A = ℕ} (eqb i k) 1 0 ≡ cond (eqb i x) 1 0 = ap (λ j. cond {A = ℕ} (eqb i j) 1 0) t.0 in omega arith))
    (λ t. (let z = held-among i (k ∷ ks) xs t in omega arith)) h

-- ---- what a list holds
pub in-yes : (i : ℕ) (ks : List ℕ) → 0 < held i ks → is_in i ks ≡ true
in-yes i [] h = absurd (omega arith)
in-yes i (k ∷ ks) h = ⊎_elim (λ t. rw t.0) (λ t. (let z = rw t.0 at h in rw t.0 (in-yes i ks (omega arith)))) (eqb_tells i k)

pub in-no : (i : ℕ) (ks : List ℕ) → held i ks ≡ 0 → is_in i ks ≡ false
in-no i [] h = refl
in-no i (k ∷ ks) h = ⊎_elim (λ t. (let z = rw t.0 at h in absurd (omega arith))) (λ t. (let z = rw t.0 at h in rw t.0 (in-no i ks (omega arith)))) (eqb_tells i k)

pub in-held : (i : ℕ) (ks : List ℕ) → is_in i ks ≡ true → 0 < held i ks
in-held i ks h = ⊎_elim (λ t. t.1) (λ t. (let z : false ≡ true = sym (in-no i ks t.1) ∙ h in cc)) (any-tells (held i ks))

pub filter-same : (p q : ℕ → Bool) (xs : List ℕ) → ((i : ℕ) → 0 < held i xs → p i ≡ q i) → filter p xs ≡ filter q xs
filter-same p q [] h = refl
filter-same p q (x ∷ xs) h = rw (h x (rw (eqb-same x) (omega arith)), filter-same p q xs (λ i k. h i (omega arith)))

-- a list among others, of which none is there twice, is what is filtered by it
pub filter-among : (ks xs : List ℕ) → ((i : ℕ) → held i xs ≤ 1) → Among ks xs → filter (λ i. is_in i ks) xs ≡ ks
unfolding Among
filter-among [] [] d h = refl
filter-among (k ∷ ks) [] d h = absurd h
filter-among [] (x ∷ xs) d h = filter-among [] xs (λ i. (let z = d i in omega arith)) tt
filter-among (k ∷ ks) (x ∷ xs) d h =
    let once : held x xs ≡ 0 = (let z = rw (eqb-same x) at (d x) in omega arith) in
    let less = λ (i : ℕ). (let z = d i in let goal : held i xs ≤ 1 = omega arith in goal) in
    ⊎_elim
    (λ (t : (k ≡ x) × Among ks xs). (let here : eqb x k ≡ true = rw t.0 (eqb-same x) in
    let rest : filter (λ i. is_in i (k ∷ ks)) xs ≡ filter (λ i. is_in i ks) xs = filter-same _ _ xs
    (λ i there. ⊎_elim (λ u. (let z : held i xs ≡ 0 = ap (λ j. held j xs) (u.1 ∙ t.0) ∙ once in absurd (omega arith))) (λ u. rw u.0) (eqb_tells i k)) in
    rw here (ap (λ zs. x ∷ zs) (rest ∙ filter-among ks xs less t.1) ∙ ap (λ j. j ∷ ks) (sym t.0))))
    (λ (t : Among (k ∷ ks) xs). (let none : held x (k ∷ ks) ≡ 0 = (let z = held-among x (k ∷ ks) xs t in omega arith) in
    let out : is_in x (k ∷ ks) ≡ false = in-no x (k ∷ ks) none in
    rw out (filter-among (k ∷ ks) xs less t))) h

filter-none : (a : ℕ) (xs : List ℕ) → held a xs ≡ 0 → filter (eqb a) xs ≡ []
filter-none a [] h = refl
filter-none a (x ∷ xs) h = ⊎_elim (λ t. (let z = rw t.0 at h in absurd (omega arith))) (λ t. (let z = rw t.0 at h in rw t.0 (filter-none a xs (omega arith)))) (eqb_tells a x)

filter-one : (a : ℕ) (xs : List ℕ) → held a xs ≡ 1 → filter (eqb a) xs ≡ a ∷ []
filter-one a [] h = absurd (omega arith)
filter-one a (x ∷ xs) h =
    ⊎_elim (λ t. (let z = rw t.0 at h in rw t.0 (rw (filter-none a xs (omega arith)) (ap (λ j. j ∷ []) (sym t.1))))) (λ t. (let z = rw t.0 at h in rw t.0 (filter-one a xs (omega arith)))) (eqb_tells a x)

-- ---- children and attributes come in document order
roots-among : (ts : Trees) → Among (roots ts) (identities ts)
unfolding Among
roots-among no_trees = tt
roots-among (tree c bs cs rest) =
    let P : List ℕ → Type 0 = Among (c.identity ∷ roots rest) in
    subst P (sym (identities-tree c bs cs rest)) (inl (refl, Among-after (roots rest) (identities bs ++ identities cs) (identities rest) (roots-among rest)))

-- the two lists of a place are among the nodes
abbrev Listed : Option Place → List ℕ → Type 0
Listed o xs = Among (attributes_at o ++ children_at o) xs

Listed-first : (a b : Option Place) (xs : List ℕ) → Listed a xs → Listed b xs → Listed (first a b) xs
Listed-first None b xs h k = k
Listed-first (Some x) b xs h k = h

listed-find : (p : Option ℕ) (i : ℕ) (ts : Trees) → Listed (find_below p i ts) (identities ts)
unfolding Among
listed-find p i no_trees = tt
listed-find p i (tree c bs cs rest) =
    let P : List ℕ → Type 0 = Listed (find_below p i (tree c bs cs rest)) in
    let xs = identities bs in
    let ys = identities cs in
    let zs = identities rest in
    subst P (sym (identities-tree c bs cs rest))
    (⊎_elim
    (λ t. rw t.0 (Among-later c.identity (roots bs ++ roots cs) ((xs ++ ys) ++ zs) (Among-before (roots bs ++ roots cs) (xs ++ ys) zs (Among-append (roots bs) (roots cs) xs ys (roots-among bs) (roots-among cs)))))
    (λ t. rw t.0 (Among-later c.identity _ ((xs ++ ys) ++ zs)
    (Listed-first (find_below (Some c.identity) i bs) _ ((xs ++ ys) ++ zs) (Among-before _ (xs ++ ys) zs (Among-before _ xs ys (listed-find (Some c.identity) i bs)))
    (Listed-first (find_below (Some c.identity) i cs) _ ((xs ++ ys) ++ zs) (Among-before _ (xs ++ ys) zs (Among-after _ xs ys (listed-find (Some c.identity) i cs)))
    (Among-after _ (xs ++ ys) zs (listed-find p i rest))))))
    (eqb_tells i c.identity))

module _ (ts : Trees) (d : AreDistinct ts) where
  once : (i : ℕ) → held i (identities ts) ≤ 1
  once i = let e = held-identities i ts in let l = d i in omega arith

  pub on-children : (a : ℕ) → on_axis Child ts a ≡ children_of a ts
  on-children a = filter-among (children_of a ts) (identities ts) once (Among-right (attributes_of a ts) (children_of a ts) (identities ts) (listed-find None a ts))

  pub on-attributes : (a : ℕ) → on_axis Attribute ts a ≡ attributes_of a ts
  on-attributes a = filter-among (attributes_of a ts) (identities ts) once (Among-left (attributes_of a ts) (children_of a ts) (identities ts) (listed-find None a ts))

  pub on-self : (a : ℕ) → IsSome (find a ts) → on_axis SelfAxis ts a ≡ a ∷ []
  on-self a there = filter-one a (identities ts) (let e = held-identities a ts in let l = d a in let m = there-counts a ts there in omega arith)

  pub child-no-attribute : (a b : ℕ) → is_child ts a b ≡ true → is_attribute ts a b ≡ false
  child-no-attribute a b h =
      let all = held-among b (attributes_of a ts ++ children_of a ts) (identities ts) (listed-find None a ts) in
      let sum = held-append b (attributes_of a ts) (children_of a ts) in
      let one = once b in
      let child = in-held b (children_of a ts) h in
      in-no b (attributes_of a ts) (omega arith)

-- ---- the parent of a node
-- what is found says what the trees say
Holds-find : (q : Option ℕ) (ts : Trees) → AreDistinct ts → Holds (λ i. option_map entry_at (find_below q i ts)) q ts
Holds-find q no_trees d = tt
Holds-find q (tree c bs cs rest) d =
    let f : Table = λ i. option_map entry_at (find_below q i (tree c bs cs rest)) in
    let p : Option ℕ = Some c.identity in
    let other : (i : ℕ) → 0 < count i bs + count i cs + count i rest → eqb i c.identity ≡ false = λ i h. ⊎_elim (λ t. (let z = rw t.0 at (d i) in absurd (omega arith))) (λ t. t.0) (eqb_tells i c.identity) in (
      rw (eqb-same c.identity) refl,
      Holds-same (λ i. option_map entry_at (find_below p i bs)) f p bs
          (λ i h. ap (option_map entry_at) (rw (other i (omega arith)) (first-some (find_below p i bs) (first (find_below p i cs) (find_below q i rest)) (find-present p i bs h))))
          (Holds-find p bs (λ i. (let l = d i in omega arith))),
      Holds-same (λ i. option_map entry_at (find_below p i cs)) f p cs
          (λ i h. (let none : count i bs ≡ 0 = (let l = d i in omega arith) in
          ap (option_map entry_at) (rw (other i (omega arith), find-absent p i bs none) (first-some (find_below p i cs) (find_below q i rest) (find-present p i cs h)))))
          (Holds-find p cs (λ i. (let l = d i in omega arith))),
      Holds-same (λ i. option_map entry_at (find_below q i rest)) f q rest
          (λ i h. (let nb : count i bs ≡ 0 = (let l = d i in omega arith) in
          let nc : count i cs ≡ 0 = (let l = d i in omega arith) in
          ap (option_map entry_at) (rw (other i (omega arith), find-absent p i bs nb, find-absent p i cs nc) refl)))
          (Holds-find q rest (λ i. (let l = d i in omega arith))),
    )

-- the table has b below p
unfoldable pub Below : Table → ℕ → Option ℕ → Type 0
Below f b p = (e : Entry) × (f b ≡ Some e) × (e.parent ≡ p)

roots-below : (f : Table) (p : Option ℕ) (ts : Trees) (b : ℕ) → Holds f p ts → 0 < held b (roots ts) → Below f b p
unfolding Below
roots-below f p no_trees b h k = absurd (omega arith)
roots-below f p (tree c bs cs rest) b h k =
    ⊎_elim (λ t. (entry_of c p (roots bs) (roots cs), ap f t.1 ∙ h.0, refl)) (λ t. (let z = rw t.0 at k in roots-below f p rest b h.3 (omega arith))) (eqb_tells b c.identity)

-- what a node lists is below it
pub lists-below : (f : Table) (p : Option ℕ) (ts : Trees) (a b : ℕ) (e : Entry) → Holds f p ts → 0 < count a ts → f a ≡ Some e → 0 < held b e.attributes + held b e.children → Below f b (Some a)
lists-below f p no_trees a b e h k at l = absurd (omega arith)
lists-below f p (tree c bs cs rest) a b e h k at l =
    ⊎_elim
    (λ t. (let z : Some (entry_of c p (roots bs) (roots cs)) ≡ Some e = sym (ap f t.1 ∙ h.0) ∙ at in
    let y : entry_of c p (roots bs) (roots cs) ≡ e = cc in
    let as_bs : held b (roots bs) ≡ held b e.attributes = ap (λ (x : Entry). held b x.attributes) y in
    let as_cs : held b (roots cs) ≡ held b e.children = ap (λ (x : Entry). held b x.children) y in
    let P : ℕ → Type 0 = λ j. Below f b (Some j) in
    subst P (sym t.1)
    (⊎_elim (λ u. roots-below f (Some c.identity) bs b h.1 u.1) (λ u. (let none : held b (roots bs) ≡ 0 = u.1 in roots-below f (Some c.identity) cs b h.2 (omega arith))) (any-tells (held b (roots bs))))))
    (λ t. (let z = rw t.0 at k in
    ⊎_elim (λ u. lists-below f (Some c.identity) bs a b e h.1 u.1 at l)
    (λ u. ⊎_elim (λ v. lists-below f (Some c.identity) cs a b e h.2 v.1 at l) (λ v. (let nb : count a bs ≡ 0 = u.1 in let nc : count a cs ≡ 0 = v.1 in lists-below f p rest a b e h.3 (omega arith) at l)) (any-tells (count a cs)))
    (any-tells (count a bs)))) (eqb_tells a c.identity)

-- a node is a root, or some node lists it
Lists : Table → ℕ → ℕ → Type 0
Lists f b a = Below f b (Some a) × ((e : Entry) × (f a ≡ Some e) × (0 < held b e.attributes + held b e.children))

root-or-listed : (f : Table) (p : Option ℕ) (ts : Trees) (b : ℕ) → Holds f p ts → 0 < count b ts → (Below f b p × (0 < held b (roots ts))) ⊎ ((a : ℕ) × Lists f b a)
unfolding Lists Below
root-or-listed f p no_trees b h k = absurd (omega arith)
root-or-listed f p (tree c bs cs rest) b h k =
    ⊎_elim
    (λ t. inl ((entry_of c p (roots bs) (roots cs), ap f t.1 ∙ h.0, refl), rw t.0 (omega arith)))
    (λ t. (let z = rw t.0 at k in
    ⊎_elim
    (λ u. ⊎_elim (λ l. inr (c.identity, (l.0, (entry_of c p (roots bs) (roots cs), h.0, (let m = l.1 in omega arith))))) (λ l. inr l) (root-or-listed f (Some c.identity) bs b h.1 u.1))
    (λ u. ⊎_elim
    (λ v. ⊎_elim (λ l. inr (c.identity, (l.0, (entry_of c p (roots bs) (roots cs), h.0, (let m = l.1 in omega arith))))) (λ l. inr l) (root-or-listed f (Some c.identity) cs b h.2 v.1))
    (λ v. (let nb : count b bs ≡ 0 = u.1 in let nc : count b cs ≡ 0 = v.1 in
    ⊎_elim (λ l. inl (l.0, rw t.0 (let m = l.1 in omega arith))) (λ l. inr l) (root-or-listed f p rest b h.3 (omega arith))))
    (any-tells (count b cs)))
    (any-tells (count b bs)))) (eqb_tells b c.identity)

some-entry : (o : Option Place) → IsSome o → (e : Entry) × (option_map entry_at o ≡ Some e)
some-entry None h = cc
some-entry (Some x) h = (entry_at x, refl)

parent-is : (o : Option ℕ) (a : ℕ) → is_parent_at o a ≡ true → o ≡ Some a
parent-is None a h = cc
parent-is (Some p) a h = ⊎_elim (λ t. ap Some t.1) (λ t. (let z : false ≡ true = sym t.0 ∙ h in cc)) (eqb_tells p a)

is-parent : (o : Option ℕ) (a : ℕ) → o ≡ Some a → is_parent_at o a ≡ true
is-parent o a h = rw h (eqb-same a)

parent-found : (o : Option Place) (a : ℕ) → parent_at o ≡ Some a → IsSome o
parent-found None a h = cc
parent-found (Some x) a h = refl

module _ (ts : Trees) (d : AreDistinct ts) where
  abbrev f : Table
  f i = entry_in i ts

  holds : Holds f None ts
  holds = Holds-find None ts d

  pub parent-lists : (a b : ℕ) → is_parent ts b a ≡ true → (is_child ts a b ≡ true) ⊎ (is_attribute ts a b ≡ true)
  unfolding Lists Below
  parent-lists a b h =
      let is : parent_of b ts ≡ Some a = parent-is (parent_of b ts) a h in
      let there = there-counts b ts (parent-found (find b ts) a is) in
      ⊎_elim
      (λ l. (let none : None ≡ Some a = sym (parent-in b ts l.0.0 l.0.1 ∙ l.0.2) ∙ is in cc))
      (λ l. (let same : Some l.0 ≡ Some a = sym (parent-in b ts l.1.0.0 l.1.0.1 ∙ l.1.0.2) ∙ is in
      let at : l.0 ≡ a = cc in
      let e = l.1.1.0 in
      let says : entry_in a ts ≡ Some e = ap (λ i. entry_in i ts) (sym at) ∙ l.1.1.1 in
      let some = l.1.1.2 in
      let as_cs : held b (children_of a ts) ≡ held b e.children = ap (held b) (children-in a ts e says) in
      let as_bs : held b (attributes_of a ts) ≡ held b e.attributes = ap (held b) (attributes-in a ts e says) in
      ⊎_elim (λ t. inl (in-yes b (children_of a ts) t.1)) (λ t. (let zero : held b (children_of a ts) ≡ 0 = t.1 in inr (in-yes b (attributes_of a ts) (omega arith)))) (any-tells (held b (children_of a ts)))))
      (root-or-listed f None ts b holds there)

  pub listed-parent : (a b : ℕ) → 0 < held b (attributes_of a ts) + held b (children_of a ts) → is_parent ts b a ≡ true
  unfolding Below
  listed-parent a b h =
      ⊎_elim
      (λ (there : 0 < count a ts). (let found : IsSome (find a ts) = find-present None a ts there in
      let e = some-entry (find a ts) found in
      let as_cs : held b (children_of a ts) ≡ held b e.0.children = ap (held b) (children-in a ts e.0 e.1) in
      let as_bs : held b (attributes_of a ts) ≡ held b e.0.attributes = ap (held b) (attributes-in a ts e.0 e.1) in
      let l = lists-below f None ts a b e.0 holds there e.1 (omega arith) in
      is-parent (parent_of b ts) a (parent-in b ts l.0 l.1 ∙ l.2)))
      (λ none. (let absent : find a ts ≡ None = find-absent None a ts (omega arith) in
      let zero : held b (attributes_of a ts) + held b (children_of a ts) ≡ 0 = rw absent refl in
      absurd (omega arith)))
      (cases_lt 0 (count a ts))

  pub lists-parent : (a b : ℕ) → (is_child ts a b ≡ true) ⊎ (is_attribute ts a b ≡ true) → is_parent ts b a ≡ true
  lists-parent a b h =
      ⊎_elim (λ t. listed-parent a b (let z = in-held b (children_of a ts) t in omega arith)) (λ t. listed-parent a b (let z = in-held b (attributes_of a ts) t in omega arith)) h

-- ---- ancestors
depth-le : (i : ℕ) (ts : Trees) → depth_of i ts ≤ size ts
depth-le i no_trees = omega arith
depth-le i (tree c bs cs rest) =
    let b = depth-le i bs in
    let s = depth-le i cs in
    let r = depth-le i rest in
    ⊎_elim (λ t. rw t.0 (omega arith)) (λ t. rw t.0
    (⊎_elim (λ u. rw u.0 (omega arith)) (λ u. rw u.0 (⊎_elim (λ v. rw v.0 (omega arith)) (λ v. rw v.0 (omega arith)) (any-tells (count i cs)))) (any-tells (count i bs)))) (eqb_tells i c.identity)

rises-none : (k : ℕ) (ts : Trees) (a b : ℕ) → parent_of a ts ≡ None → rises_to k ts a b ≡ false
rises-none zero ts a b h = refl
rises-none (suc k) ts a b h = rw (h, rises_to) refl

rises-some : (k : ℕ) (ts : Trees) (a b p : ℕ) → parent_of a ts ≡ Some p → rises_to (suc k) ts a b ≡ (eqb p b || rises_to k ts p b)
rises-some k ts a b p h = rw (h, rises_to) refl

or-true : (x y : Bool) → (x || y) ≡ true → (x ≡ true) ⊎ (y ≡ true)
or-true true y h = inl refl
or-true false y h = inr h

or-right : (x y : Bool) → y ≡ true → (x || y) ≡ true
or-right true y h = refl
or-right false y h = h

or-left : (x y : Bool) → x ≡ true → (x || y) ≡ true
or-left x y h = rw h refl

option-cases : (o : Option ℕ) → (o ≡ None) ⊎ ((p : ℕ) × (o ≡ Some p))
option-cases None = inl refl
option-cases (Some p) = inr (p, refl)

module _ (ts : Trees) (d : AreDistinct ts) (b : ℕ) where
  -- more steps than the node is deep reach no further
  rises-enough : (k a : ℕ) → IsSome (find a ts) → depth_of a ts ≤ k → rises_to (suc k) ts a b ≡ rises_to k ts a b
  rises-enough zero a there deep =
      ⊎_elim (λ n. rises-none 1 ts a b n) (λ s. (let up = climb-up a s.0 ts d there s.1 in let less = up.2 in absurd (omega arith))) (option-cases (parent_of a ts))
  rises-enough (suc k) a there deep =
      ⊎_elim (λ n. rises-none (suc (suc k)) ts a b n ∙ sym (rises-none (suc k) ts a b n))
      (λ s. (let up = climb-up a s.0 ts d there s.1 in let less = up.2 in
      rises-some (suc k) ts a b s.0 s.1 ∙ ap (λ r. eqb s.0 b || r) (rises-enough k s.0 up.0 (omega arith)) ∙ sym (rises-some k ts a b s.0 s.1))) (option-cases (parent_of a ts))

  rises-up : (k a p : ℕ) → IsSome (find a ts) → parent_of a ts ≡ Some p → depth_of a ts ≤ k → rises_to k ts a b ≡ (eqb p b || rises_to k ts p b)
  rises-up zero a p there is deep = let up = climb-up a p ts d there is in let less = up.2 in absurd (omega arith)
  rises-up (suc k) a p there is deep =
      let up = climb-up a p ts d there is in
      let less = up.2 in
      rises-some k ts a b p is ∙ ap (λ r. eqb p b || r) (sym (rises-enough k p up.0 (omega arith)))

  pub ancestor-up : (a : ℕ) → is_ancestor ts a b ≡ true → (is_parent ts a b ≡ true) ⊎ ((p : ℕ) × (is_parent ts a p ≡ true) × (is_ancestor ts p b ≡ true))
  ancestor-up a h =
      ⊎_elim (λ n. (let z : false ≡ true = sym (rises-none (size ts) ts a b n) ∙ h in cc))
      (λ s. ⊎_elim (λ l. inl (rw s.1 l)) (λ r. inr (s.0, is-parent (parent_of a ts) s.0 s.1, r))
      (or-true (eqb s.0 b) (rises_to (size ts) ts s.0 b) (sym (rises-up (size ts) a s.0 (parent-found (find a ts) s.0 s.1) s.1 (depth-le a ts)) ∙ h)))
      (option-cases (parent_of a ts))

  ancestor-at : (a p : ℕ) → is_parent ts a p ≡ true → ((eqb p b || is_ancestor ts p b) ≡ true) → is_ancestor ts a b ≡ true
  ancestor-at a p is h =
      let up = parent-is (parent_of a ts) p is in
      rises-up (size ts) a p (parent-found (find a ts) p up) up (depth-le a ts) ∙ h

  pub ancestor-down : (a : ℕ) → (is_parent ts a b ≡ true) ⊎ ((p : ℕ) × (is_parent ts a p ≡ true) × (is_ancestor ts p b ≡ true)) → is_ancestor ts a b ≡ true
  ancestor-down a h =
      ⊎_elim (λ l. ancestor-at a b l (or-left (eqb b b) _ (eqb-same b))) (λ r. ancestor-at a r.0 r.1 (or-right (eqb r.0 b) _ r.2)) h
