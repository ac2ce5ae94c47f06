-- A node's place in a list of another.
use Rattle.std.proofs.Common.{◌≡◌, ℕ, ◌+◌, ◌≤◌, ◌<◌, List, true, false, eqb, refl, ap, sym, ◌∙◌, arith, ⊎_elim, ◌⊎◌, inl, inr, Option, Some, None, IsSome}
use Rattle.std.specs.List.{slice_get}
use Prim.Native.Nat.{zero, suc}
use Rattle.std.proofs.lemmas.Bool.Decides.{eqb_tells}
use Rattle.data_model.specs.Trees.{Trees, no_trees, tree, Content, Place, append, roots, count, first, find_below, parent_at, attributes_at, children_at}
use Rattle.data_model.specs.Changes.{with_part}
use Rattle.data_model.specs.Walks.{held}
use Rattle.data_model.specs.declared.node.Part.{Part}
use Rattle.data_model.specs.declared.node.Part.TheVariants.{Attributes, Children}
use Rattle.data_model.proofs.Climbs.{any-tells, find-absent, find-present, first-some}
use Rattle.data_model.proofs.Weights.{append-append}
use Rattle.node_plans.proofs.Sites.{absent-part}
use Rattle.node_plans.specs.Splices.{first_of, rest_of, spliced}
use Rattle.update_meaning.specs.Effects.{with_tree, with_tree_below}
use Rattle.update_stages.specs.Places.{beside, start_of, end_of}
use Rattle.update_stages.specs.declared.sites.Side.{Side}
use Rattle.update_stages.specs.declared.sites.Side.TheVariants.{Before, After, Instead}
use Rattle.update_stages.proofs.Absent.{with_tree-absent, below-absent}

-- ---- lists that are cut
pub first-zero : (ts : Trees) → first_of zero ts ≡ no_trees
first-zero no_trees = refl
first-zero (tree c bs cs rest) = refl

pub rest-zero : (ts : Trees) → rest_of zero ts ≡ ts
rest-zero no_trees = refl
rest-zero (tree c bs cs rest) = refl

-- ---- a tree in its list
root-counts : (i n : ℕ) (ts : Trees) → slice_get (roots ts) n ≡ Some i → 0 < count i ts
root-counts i n no_trees h = cc
root-counts i zero (tree c bs cs rest) h = let e : i ≡ c.identity = cc in ⊎_elim (λ t. rw t.0 (omega arith)) (λ t. absurd (t.1 e)) (eqb_tells i c.identity)
root-counts i (suc n) (tree c bs cs rest) h = omega (arith, root-counts i n rest h)

joined : (side : Side) (us : Trees) (c : Content) (bs cs rest : Trees) → append (beside side us (tree c bs cs no_trees)) rest ≡ spliced (start_of side zero) (end_of side zero) us (tree c bs cs rest)
joined Before us c bs cs rest = append-append us (tree c bs cs no_trees) rest
joined After us c bs cs rest = rw (first-zero rest, rest-zero rest) refl
joined Instead us c bs cs rest = rw (rest-zero rest) refl

moved : (side : Side) (n : ℕ) (us : Trees) (c : Content) (bs cs rest : Trees) → tree c bs cs (spliced (start_of side n) (end_of side n) us rest) ≡ spliced (start_of side (suc n)) (end_of side (suc n)) us (tree c bs cs rest)
moved Before n us c bs cs rest = refl
moved After n us c bs cs rest = refl
moved Instead n us c bs cs rest = refl

pub in-list : (i n : ℕ) (side : Side) (us ts : Trees) → count i ts ≤ 1 → slice_get (roots ts) n ≡ Some i → with_tree i (beside side us) ts ≡ spliced (start_of side n) (end_of side n) us ts
in-list i n side us no_trees d h = cc
in-list i zero side us (tree c bs cs rest) d h =
    let e : i ≡ c.identity = cc in
    ⊎_elim
    (λ t. (let y = rw t.0 at d in rw (t.0, with_tree-absent i (beside side us) rest (omega arith)) (joined side us c bs cs rest)))
    (λ t. absurd (t.1 e)) (eqb_tells i c.identity)
in-list i (suc n) side us (tree c bs cs rest) d h =
    let some = root-counts i n rest h in
    ⊎_elim
    (λ t. (let y = rw t.0 at d in absurd (omega arith)))
    (λ t. (let y = rw t.0 at d in
    rw (t.0, with_tree-absent i (beside side us) bs (omega arith), with_tree-absent i (beside side us) cs (omega arith), in-list i n side us rest (omega arith) h) (moved side n us c bs cs rest)))
    (eqb_tells i c.identity)

-- ---- where a look-up finds a node
pub data Finds (q : Option ℕ) (p : ℕ) (c : Content) (bs cs rest : Trees) : Type 0 where
  at_head : eqb p c.identity ≡ true → find_below q p (tree c bs cs rest) ≡ Some (record { parent = q; content = c; attributes = bs; children = cs }) → Finds q p c bs cs rest
  in_attributes : eqb p c.identity ≡ false → 0 < count p bs → find_below q p (tree c bs cs rest) ≡ find_below (Some c.identity) p bs → Finds q p c bs cs rest
  in_children : eqb p c.identity ≡ false → count p bs ≡ 0 → 0 < count p cs → find_below q p (tree c bs cs rest) ≡ find_below (Some c.identity) p cs → Finds q p c bs cs rest
  in_rest : eqb p c.identity ≡ false → count p bs ≡ 0 → count p cs ≡ 0 → find_below q p (tree c bs cs rest) ≡ find_below q p rest → Finds q p c bs cs rest

pub finds : (q : Option ℕ) (p : ℕ) (c : Content) (bs cs rest : Trees) → Finds q p c bs cs rest
finds q p c bs cs rest =
    let below = Some c.identity in
    ⊎_elim (λ t. at_head t.0 (rw t.0 refl))
    (λ t. ⊎_elim
    (λ u. in_attributes t.0 u.1 (rw t.0 (first-some (find_below below p bs) (first (find_below below p cs) (find_below q p rest)) (find-present below p bs u.1))))
    (λ u. ⊎_elim
    (λ v. in_children t.0 u.1 v.1 (rw (t.0, find-absent below p bs u.1) (first-some (find_below below p cs) (find_below q p rest) (find-present below p cs v.1))))
    (λ v. in_rest t.0 u.1 v.1 (rw (t.0, find-absent below p bs u.1, find-absent below p cs v.1) refl))
    (any-tells (count p cs)))
    (any-tells (count p bs)))
    (eqb_tells p c.identity)

-- ---- the list of a node in which another stands
abbrev pub part_at : Part → Option Place → List ℕ
part_at Attributes o = attributes_at o
part_at Children o = children_at o

none-at : (part : Part) (n i : ℕ) → slice_get (part_at part None) n ≡ Some i → ⊥
none-at Attributes n i h = cc
none-at Children n i h = cc

listed-here : (part : Part) (n i : ℕ) (x : Place) → slice_get (part_at part (Some x)) n ≡ Some i → 0 < count i x.attributes + count i x.children
listed-here Attributes n i x h = omega (arith, root-counts i n x.attributes h)
listed-here Children n i x h = omega (arith, root-counts i n x.children h)

-- a node in a list of another stands below it
module _ (part : Part) (p n i : ℕ) where
  abbrev Listed : Option Place → Type 0
  Listed o = slice_get (part_at part o) n ≡ Some i

  pub listed-counts : (q : Option ℕ) (ts : Trees) → Listed (find_below q p ts) → 0 < count i ts
  listed-counts q no_trees h = absurd (none-at part n i h)
  listed-counts q (tree c bs cs rest) h =
      elim (finds q p c bs cs rest) [
        | at_head t e ↦ let k = listed-here part n i _ (rw e at h) in omega arith
        | in_attributes t u e ↦ let k = listed-counts (Some c.identity) bs (rw e at h) in omega arith
        | in_children t u v e ↦ let k = listed-counts (Some c.identity) cs (rw e at h) in omega arith
        | in_rest t u v e ↦ let k = listed-counts q rest (rw e at h) in omega arith
      ]

  pub listed-under : (q : Option ℕ) (c : Content) (bs cs rest : Trees) → Listed (find_below q p (tree c bs cs rest)) → 0 < count i bs + count i cs + count i rest
  listed-under q c bs cs rest h =
      elim (finds q p c bs cs rest) [
        | at_head t e ↦ let k = listed-here part n i _ (rw e at h) in omega arith
        | in_attributes t u e ↦ let k = listed-counts (Some c.identity) bs (rw e at h) in omega arith
        | in_children t u v e ↦ let k = listed-counts (Some c.identity) cs (rw e at h) in omega arith
        | in_rest t u v e ↦ let k = listed-counts q rest (rw e at h) in omega arith
      ]

-- ---- trees that are rewritten round a node are those in which its list is
elsewhere : (part : Part) (p : ℕ) (g : Trees → Trees) (c : Content) (bs cs rest : Trees) → eqb p c.identity ≡ false
    → with_part part p g (tree c bs cs rest) ≡ tree c (with_part part p g bs) (with_part part p g cs) (with_part part p g rest)
elsewhere Attributes p g c bs cs rest t = rw t refl
elsewhere Children p g c bs cs rest t = rw t refl

other-node : (i : ℕ) (g : Trees → Trees) (c : Content) (bs cs rest : Trees) → eqb i c.identity ≡ false → with_tree i g (tree c bs cs rest) ≡ tree c (with_tree i g bs) (with_tree i g cs) (with_tree i g rest)
other-node i g c bs cs rest t = rw t refl

not-head : (i : ℕ) (c : Content) (bs cs rest : Trees) → count i (tree c bs cs rest) ≤ 1 → 0 < count i bs + count i cs + count i rest → eqb i c.identity ≡ false
not-head i c bs cs rest d h = ⊎_elim (λ t. (let y = rw t.0 at d in absurd (omega arith))) (λ t. t.0) (eqb_tells i c.identity)

module _ (p i n : ℕ) (g k : Trees → Trees) (same : (ts : Trees) → count i ts ≤ 1 → slice_get (roots ts) n ≡ Some i → with_tree i g ts ≡ k ts) where
  -- the list is that of the first node
  at-first : (part : Part) (q : Option ℕ) (c : Content) (bs cs rest : Trees) → eqb p c.identity ≡ true → count p (tree c bs cs rest) ≤ 1 → count i (tree c bs cs rest) ≤ 1
      → Listed part p n i (Some (record { parent = q; content = c; attributes = bs; children = cs })) → tree c (with_tree i g bs) (with_tree i g cs) rest ≡ with_part part p k (tree c bs cs rest)
  at-first Attributes q c bs cs rest t o d h =
      let some = root-counts i n bs h in
      let y = rw t at o in
      rw (t, absent-part Attributes p k bs (omega arith), absent-part Attributes p k cs (omega arith), absent-part Attributes p k rest (omega arith), same bs (omega arith) h, with_tree-absent i g cs (omega arith)) refl
  at-first Children q c bs cs rest t o d h =
      let some = root-counts i n cs h in
      let y = rw t at o in
      rw (t, absent-part Children p k bs (omega arith), absent-part Children p k cs (omega arith), absent-part Children p k rest (omega arith), same cs (omega arith) h, with_tree-absent i g bs (omega arith)) refl

  -- the first tree, where it is known what is written in the lists below it and after it
  first-tree : (part : Part) (q : Option ℕ) (c : Content) (bs cs rest new : Trees) → count p (tree c bs cs rest) ≤ 1 → count i (tree c bs cs rest) ≤ 1 → Listed part p n i (find_below q p (tree c bs cs rest))
      → (Listed part p n i (find_below (Some c.identity) p bs) → with_tree i g bs ≡ with_part part p k bs)
      → (Listed part p n i (find_below (Some c.identity) p cs) → with_tree i g cs ≡ with_part part p k cs)
      → (Listed part p n i (find_below q p rest) → new ≡ with_part part p k rest) → (count i rest ≡ 0 → new ≡ rest)
      → tree c (with_tree i g bs) (with_tree i g cs) new ≡ with_part part p k (tree c bs cs rest)
  first-tree part q c bs cs rest new o d h ib ic ir ia =
      let absent : (ts : Trees) → count i ts ≡ 0 → count p ts ≡ 0 → with_tree i g ts ≡ with_part part p k ts = λ ts a b. with_tree-absent i g ts a ∙ sym (absent-part part p k ts b) in
      elim (finds q p c bs cs rest) [
        | at_head t e ↦ (let l = rw e at h in let some = listed-here part n i _ l in ap (λ x. tree c (with_tree i g bs) (with_tree i g cs) x) (ia (omega arith)) ∙ at-first part q c bs cs rest t o d l)
        | in_attributes t u e ↦
            (let l = rw e at h in
            let some = listed-counts part p n i (Some c.identity) bs l in
            (λ j. tree c (ib l j) (absent cs (omega arith) (omega arith) j) ((ia (omega arith) ∙ sym (absent-part part p k rest (omega arith))) j)) ∙ sym (elsewhere part p k c bs cs rest t))
        | in_children t u v e ↦
            (let l = rw e at h in
            let some = listed-counts part p n i (Some c.identity) cs l in
            (λ j. tree c (absent bs (omega arith) (omega arith) j) (ic l j) ((ia (omega arith) ∙ sym (absent-part part p k rest (omega arith))) j)) ∙ sym (elsewhere part p k c bs cs rest t))
        | in_rest t u v e ↦
            (let l = rw e at h in
            let some = listed-counts part p n i q rest l in
            (λ j. tree c (absent bs (omega arith) (omega arith) j) (absent cs (omega arith) (omega arith) j) (ir l j)) ∙ sym (elsewhere part p k c bs cs rest t))
      ]

  tree-listed : (part : Part) (q : Option ℕ) (ts : Trees) → count p ts ≤ 1 → count i ts ≤ 1 → Listed part p n i (find_below q p ts) → with_tree i g ts ≡ with_part part p k ts
  tree-listed part q no_trees o d h = refl
  tree-listed part q (tree c bs cs rest) o d h =
      other-node i g c bs cs rest (not-head i c bs cs rest d (listed-under part p n i q c bs cs rest h))
      ∙ first-tree part q c bs cs rest (with_tree i g rest) o d h
      (λ l. tree-listed part (Some c.identity) bs (omega arith) (omega arith) l)
      (λ l. tree-listed part (Some c.identity) cs (omega arith) (omega arith) l)
      (λ l. tree-listed part q rest (omega arith) (omega arith) l)
      (λ z. with_tree-absent i g rest z)

  pub below-listed : (part : Part) (q : Option ℕ) (ts : Trees) → count p ts ≤ 1 → count i ts ≤ 1 → Listed part p n i (find_below q p ts) → with_tree_below i g ts ≡ with_part part p k ts
  below-listed part q no_trees o d h = refl
  below-listed part q (tree c bs cs rest) o d h =
      first-tree part q c bs cs rest (with_tree_below i g rest) o d h
      (λ l. tree-listed part (Some c.identity) bs (omega arith) (omega arith) l)
      (λ l. tree-listed part (Some c.identity) cs (omega arith) (omega arith) l)
      (λ l. below-listed part q rest (omega arith) (omega arith) l)
      (λ z. below-absent i g rest z)

-- ---- a node whose parent is none, or some
parent-some : (q : ℕ) (i : ℕ) (ts : Trees) → 0 < count i ts → IsSome (parent_at (find_below (Some q) i ts))
parent-some q i no_trees h = absurd (omega arith)
parent-some q i (tree c bs cs rest) h =
    elim (finds (Some q) i c bs cs rest) [
      | at_head t e ↦ rw e refl
      | in_attributes t u e ↦ rw e (parent-some c.identity i bs u)
      | in_children t u v e ↦ rw e (parent-some c.identity i cs v)
      | in_rest t u v e ↦ rw e (parent-some q i rest (let y = rw t at h in omega arith))
    ]

some-none : (o : Option ℕ) → IsSome o → o ≡ None → ⊥
some-none None h e = cc
some-none (Some x) h e = cc

-- a root stands below none
pub below-root : (i : ℕ) (g : Trees → Trees) (ts : Trees) → count i ts ≤ 1 → parent_at (find_below None i ts) ≡ None → with_tree_below i g ts ≡ ts
below-root i g no_trees d h = refl
below-root i g (tree c bs cs rest) d h =
    elim (finds None i c bs cs rest) [
      | at_head t e ↦ (let y = rw t at d in rw (with_tree-absent i g bs (omega arith), with_tree-absent i g cs (omega arith), below-absent i g rest (omega arith)) refl)
      | in_attributes t u e ↦ absurd (some-none _ (parent-some c.identity i bs u) (rw e at h))
      | in_children t u v e ↦ absurd (some-none _ (parent-some c.identity i cs v) (rw e at h))
      | in_rest t u v e ↦ rw (with_tree-absent i g bs u, with_tree-absent i g cs v, below-root i g rest (let y = rw t at d in omega arith) (rw e at h)) refl
    ]

-- how often a node stands in the lists of a place
abbrev pub in_lists : ℕ → Option Place → ℕ
in_lists i o = held i (attributes_at o) + held i (children_at o)

pub none-in : (i : ℕ) (o : Option Place) → 0 < in_lists i o → o ≡ None → ⊥
none-in i None h e = omega arith
none-in i (Some x) h e = cc

lists-there : (q : Option ℕ) (p i : ℕ) (ts : Trees) → 0 < in_lists i (find_below q p ts) → 0 < count p ts
lists-there q p i ts h = ⊎_elim (λ t. t.1) (λ t. absurd (none-in i _ h (find-absent q p ts t.1))) (any-tells (count p ts))

-- a parent's lists have its node
module _ (p i : ℕ) where
  at-parent : (q : Option ℕ) (c : Content) (bs cs rest : Trees) → c.identity ≡ p → 0 < held i (roots bs) + held i (roots cs) → 0 < in_lists i (find_below q p (tree c bs cs rest))
  at-parent q c bs cs rest e h = ⊎_elim (λ t. rw t.0 (omega arith)) (λ t. absurd (t.1 (sym e))) (eqb_tells p c.identity)

  pub by-parent : (q : Option ℕ) (ts : Trees) → count p ts ≤ 1 → count i ts ≤ 1 → parent_at (find_below q i ts) ≡ Some p → ((q ≡ Some p) × (0 < held i (roots ts))) ⊎ (0 < in_lists i (find_below q p ts))
  by-parent q no_trees o d h = cc
  by-parent q (tree c bs cs rest) o d h =
      elim (finds q i c bs cs rest) [
        | at_head t e ↦ inl (rw e at h, rw t (omega arith))
        | in_attributes t u e ↦
            ⊎_elim (λ l. let same : c.identity ≡ p = (let z = l.0 in cc) in let some = l.1 in inr (at-parent q c bs cs rest same (omega arith)))
            (λ r. (let some = lists-there (Some c.identity) p i bs r in
            elim (finds q p c bs cs rest) [
              | at_head s f ↦ (let y = rw s at o in absurd (omega arith))
              | in_attributes s v f ↦ inr (rw f r)
              | in_children s v w f ↦ absurd (omega arith)
              | in_rest s v w f ↦ absurd (omega arith)
            ])) (by-parent (Some c.identity) bs (omega arith) (omega arith) (rw e at h))
        | in_children t u k e ↦
            ⊎_elim (λ l. let same : c.identity ≡ p = (let z = l.0 in cc) in let some = l.1 in inr (at-parent q c bs cs rest same (omega arith)))
            (λ r. (let some = lists-there (Some c.identity) p i cs r in
            elim (finds q p c bs cs rest) [
              | at_head s f ↦ (let y = rw s at o in absurd (omega arith))
              | in_attributes s v f ↦ absurd (omega arith)
              | in_children s v w f ↦ inr (rw f r)
              | in_rest s v w f ↦ absurd (omega arith)
            ])) (by-parent (Some c.identity) cs (omega arith) (omega arith) (rw e at h))
        | in_rest t u k e ↦
            ⊎_elim (λ l. let some = l.1 in inl (l.0, omega arith))
            (λ r. (let some = lists-there q p i rest r in
            elim (finds q p c bs cs rest) [
              | at_head s f ↦ (let y = rw s at o in absurd (omega arith))
              | in_attributes s v f ↦ absurd (omega arith)
              | in_children s v w f ↦ absurd (omega arith)
              | in_rest s v w f ↦ inr (rw f r)
            ])) (by-parent q rest (omega arith) (omega arith) (rw e at h))
      ]

-- ---- a list of a node that is rewritten, where two rewritings agree on it
module _ (p : ℕ) (g k : Trees → Trees) where
  agree-first : (part : Part) (q : Option ℕ) (c : Content) (bs cs rest : Trees) → eqb p c.identity ≡ true → count p (tree c bs cs rest) ≤ 1
      → ((us : Trees) → roots us ≡ part_at part (Some (record { parent = q; content = c; attributes = bs; children = cs })) → g us ≡ k us) → with_part part p g (tree c bs cs rest) ≡ with_part part p k (tree c bs cs rest)
  agree-first Attributes q c bs cs rest t o same =
      let y = rw t at o in
      let without : (h : Trees → Trees) (ts : Trees) → count p ts ≡ 0 → with_part Attributes p h ts ≡ ts = absent-part Attributes p in
      rw (t, without g bs (omega arith), without g cs (omega arith), without g rest (omega arith))
      (rw (without k bs (omega arith), without k cs (omega arith), without k rest (omega arith), same bs refl) refl)
  agree-first Children q c bs cs rest t o same =
      let y = rw t at o in
      let without : (h : Trees → Trees) (ts : Trees) → count p ts ≡ 0 → with_part Children p h ts ≡ ts = absent-part Children p in
      rw (t, without g bs (omega arith), without g cs (omega arith), without g rest (omega arith))
      (rw (without k bs (omega arith), without k cs (omega arith), without k rest (omega arith), same cs refl) refl)

  pub agree : (part : Part) (q : Option ℕ) (ts : Trees) → count p ts ≤ 1 → ((us : Trees) → roots us ≡ part_at part (find_below q p ts) → g us ≡ k us) → with_part part p g ts ≡ with_part part p k ts
  agree part q no_trees o same = refl
  agree part q (tree c bs cs rest) o same =
      let absent : (ts : Trees) → count p ts ≡ 0 → with_part part p g ts ≡ with_part part p k ts = λ ts z. absent-part part p g ts z ∙ sym (absent-part part p k ts z) in
      elim (finds q p c bs cs rest) [
        | at_head t e ↦ agree-first part q c bs cs rest t o (rw e at same)
        | in_attributes t u e ↦
            elsewhere part p g c bs cs rest t
            ∙ (λ j. tree c (agree part (Some c.identity) bs (omega arith) (rw e at same) j) (absent cs (omega arith) j) (absent rest (omega arith) j))
            ∙ sym (elsewhere part p k c bs cs rest t)
        | in_children t u v e ↦
            elsewhere part p g c bs cs rest t
            ∙ (λ j. tree c (absent bs (omega arith) j) (agree part (Some c.identity) cs (omega arith) (rw e at same) j) (absent rest (omega arith) j))
            ∙ sym (elsewhere part p k c bs cs rest t)
        | in_rest t u v e ↦
            elsewhere part p g c bs cs rest t
            ∙ (λ j. tree c (absent bs (omega arith) j) (absent cs (omega arith) j) (agree part q rest (omega arith) (rw e at same) j))
            ∙ sym (elsewhere part p k c bs cs rest t)
      ]
