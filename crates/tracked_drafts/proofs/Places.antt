-- Where a node stands, and that the list in which it does is one of its parent's.
use Rattle.std.proofs.Common.{◌≡◌, ℕ, ◌≤◌, ◌<◌, eqb, false, refl, ap, sym, ◌∙◌, arith, ⊎_elim, ◌⊎◌, inl, inr, Option, Some, None}
use Rattle.std.proofs.lemmas.Bool.Decides.{eqb_tells}
use Rattle.data_model.specs.Trees.{Trees, no_trees, tree, Content, Place, first, find, find_below, count, roots}
use Rattle.data_model.specs.Changes.{with_part}
use Rattle.data_model.specs.Walks.{held}
use Rattle.data_model.specs.declared.node.Part.{Part}
use Rattle.data_model.specs.declared.node.Part.TheVariants.{Attributes, Children}
use Rattle.data_model.proofs.Climbs.{any-tells, find-absent, find-present, first-some}
use Rattle.node_table.proofs.Relists.{relisted}
use Rattle.node_table.proofs.Onces.{held-roots}

-- a node below another or beside it: among the attributes, among the children, or after them
pub record Beside (o : Option ℕ) (i : ℕ) (c : Content) (bs cs rest : Trees) (x : Place) : Type 0 where
  pub where_it_is : ((find_below (Some c.identity) i bs ≡ Some x) × (count i cs ≡ 0) × (count i rest ≡ 0)) ⊎ (((count i bs ≡ 0) × (find_below (Some c.identity) i cs ≡ Some x) × (count i rest ≡ 0)) ⊎ ((count i bs ≡ 0) × (count i cs ≡ 0) × (find_below o i rest ≡ Some x)))

pub find-beside : (o : Option ℕ) (i : ℕ) (c : Content) (bs cs rest : Trees) (x : Place) → eqb i c.identity ≡ false → count i (tree c bs cs rest) ≤ 1 → find_below o i (tree c bs cs rest) ≡ Some x → Beside o i c bs cs rest x
find-beside o i c bs cs rest x e one found =
    let f = rw e at found in
    let l = rw e at one in
    record {
      where_it_is =
          ⊎_elim
          (λ u. inl (sym (first-some (find_below (Some c.identity) i bs) (first (find_below (Some c.identity) i cs) (find_below o i rest)) (find-present (Some c.identity) i bs u.1)) ∙ f, (let k = u.1 in omega arith), (let k = u.1 in omega arith)))
          (λ u. (let g = rw (find-absent (Some c.identity) i bs u.1) at f in
          ⊎_elim
          (λ v. inr (inl (u.1, sym (first-some (find_below (Some c.identity) i cs) (find_below o i rest) (find-present (Some c.identity) i cs v.1)) ∙ g, (let k = v.1 in omega arith))))
          (λ v. (let h = rw (find-absent (Some c.identity) i cs v.1) at g in inr (inr (u.1, v.1, h))))
          (any-tells (count i cs))))
          (any-tells (count i bs));
    }

-- ---- a list of a node
abbrev pub list_of : Part → Place → Trees
list_of Attributes x = x.attributes
list_of Children x = x.children

pub with_part-absent : (part : Part) (p : ℕ) (g : Trees → Trees) (ts : Trees) → count p ts ≡ 0 → with_part part p g ts ≡ ts
with_part-absent part p g no_trees h = refl
with_part-absent Attributes p g (tree c bs cs rest) h =
    ⊎_elim (λ t. (let z = rw t.0 at h in absurd (omega arith)))
    (λ t. (let z = rw t.0 at h in rw (t.0, with_part-absent Attributes p g bs (omega arith), with_part-absent Attributes p g cs (omega arith), with_part-absent Attributes p g rest (omega arith)) refl)) (eqb_tells p c.identity)
with_part-absent Children p g (tree c bs cs rest) h =
    ⊎_elim (λ t. (let z = rw t.0 at h in absurd (omega arith)))
    (λ t. (let z = rw t.0 at h in rw (t.0, with_part-absent Children p g bs (omega arith), with_part-absent Children p g cs (omega arith), with_part-absent Children p g rest (omega arith)) refl)) (eqb_tells p c.identity)

-- the list that stands there already
pub relisted-self : (part : Part) (o : Option ℕ) (p : ℕ) (ts : Trees) (x : Place) → count p ts ≤ 1 → find_below o p ts ≡ Some x → relisted part p (list_of part x) ts ≡ ts
relisted-self part o p no_trees x one found = cc
relisted-self Attributes o p (tree c bs cs rest) x one found =
    ⊎_elim
    (λ t. (let l = rw t.0 at one in let f = rw t.0 at found in
    let is : x.attributes ≡ bs = cc in
    rw (t.0, with_part-absent Attributes p (λ _. x.attributes) cs (omega arith), with_part-absent Attributes p (λ _. x.attributes) rest (omega arith)) (ap (λ us. tree c us cs rest) is)))
    (λ t. (let us = x.attributes in
    let here : eqb p c.identity ≡ false = t.0 in
    ⊎_elim
    (λ a. (let l = rw t.0 at one in rw (here, relisted-self Attributes (Some c.identity) p bs x (omega arith) a.0, with_part-absent Attributes p (λ _. us) cs a.1, with_part-absent Attributes p (λ _. us) rest a.2) refl))
    (λ d. ⊎_elim
    (λ a. (let l = rw t.0 at one in rw (here, with_part-absent Attributes p (λ _. us) bs a.0, relisted-self Attributes (Some c.identity) p cs x (omega arith) a.1, with_part-absent Attributes p (λ _. us) rest a.2) refl))
    (λ a. (let l = rw t.0 at one in rw (here, with_part-absent Attributes p (λ _. us) bs a.0, with_part-absent Attributes p (λ _. us) cs a.1, relisted-self Attributes o p rest x (omega arith) a.2) refl)) d)
    (find-beside o p c bs cs rest x t.0 one found).where_it_is))
    (eqb_tells p c.identity)
relisted-self Children o p (tree c bs cs rest) x one found =
    ⊎_elim
    (λ t. (let l = rw t.0 at one in let f = rw t.0 at found in
    let is : x.children ≡ cs = cc in
    rw (t.0, with_part-absent Children p (λ _. x.children) bs (omega arith), with_part-absent Children p (λ _. x.children) rest (omega arith)) (ap (λ us. tree c bs us rest) is)))
    (λ t. (let us = x.children in
    let here : eqb p c.identity ≡ false = t.0 in
    ⊎_elim
    (λ a. (let l = rw t.0 at one in rw (here, relisted-self Children (Some c.identity) p bs x (omega arith) a.0, with_part-absent Children p (λ _. us) cs a.1, with_part-absent Children p (λ _. us) rest a.2) refl))
    (λ d. ⊎_elim
    (λ a. (let l = rw t.0 at one in rw (here, with_part-absent Children p (λ _. us) bs a.0, relisted-self Children (Some c.identity) p cs x (omega arith) a.1, with_part-absent Children p (λ _. us) rest a.2) refl))
    (λ a. (let l = rw t.0 at one in rw (here, with_part-absent Children p (λ _. us) bs a.0, with_part-absent Children p (λ _. us) cs a.1, relisted-self Children o p rest x (omega arith) a.2) refl)) d)
    (find-beside o p c bs cs rest x t.0 one found).where_it_is))
    (eqb_tells p c.identity)

-- it doesn't hold the node itself
pub list-apart : (part : Part) (o : Option ℕ) (p : ℕ) (ts : Trees) (x : Place) → count p ts ≤ 1 → find_below o p ts ≡ Some x → count p (list_of part x) ≡ 0
list-apart part o p no_trees x one found = cc
list-apart part o p (tree c bs cs rest) x one found =
    ⊎_elim
    (λ t. (let l = rw t.0 at one in let f = rw t.0 at found in
    let is : x ≡ record { parent = o; content = c; attributes = bs; children = cs } = cc in
    rw is (at-part part bs cs o c (omega arith) (omega arith))))
    (λ t. (let l = rw t.0 at one in
    ⊎_elim
    (λ a. list-apart part (Some c.identity) p bs x (omega arith) a.0)
    (λ d. ⊎_elim (λ a. list-apart part (Some c.identity) p cs x (omega arith) a.1) (λ a. list-apart part o p rest x (omega arith) a.2) d)
    (find-beside o p c bs cs rest x t.0 one found).where_it_is))
    (eqb_tells p c.identity)
  where
    at-part : (part : Part) (bs cs : Trees) (o : Option ℕ) (c : Content) → count p bs ≡ 0 → count p cs ≡ 0 → count p (list_of part (record { parent = o; content = c; attributes = bs; children = cs })) ≡ 0
    at-part Attributes bs cs o c h k = h
    at-part Children bs cs o c h k = k

pub with_part-relisted : (part : Part) (p : ℕ) (g : Trees → Trees) (us ts : Trees) → count p us ≡ 0 → with_part part p g (relisted part p us ts) ≡ relisted part p (g us) ts
with_part-relisted part p g us no_trees h = refl
with_part-relisted Attributes p g us (tree c bs cs rest) h =
    let b = with_part-relisted Attributes p g us bs h in
    let d = with_part-relisted Attributes p g us cs h in
    let r = with_part-relisted Attributes p g us rest h in
    ⊎_elim (λ s. rw (s.0, with_part-absent Attributes p g us h, d, r) refl) (λ s. rw (s.0, b, d, r) refl) (eqb_tells p c.identity)
with_part-relisted Children p g us (tree c bs cs rest) h =
    let b = with_part-relisted Children p g us bs h in
    let d = with_part-relisted Children p g us cs h in
    let r = with_part-relisted Children p g us rest h in
    ⊎_elim (λ s. rw (s.0, with_part-absent Children p g us h, b, r) refl) (λ s. rw (s.0, b, d, r) refl) (eqb_tells p c.identity)

-- a list that is rewritten is one list for another
pub with_part-is : (part : Part) (p : ℕ) (g : Trees → Trees) (ts : Trees) (x : Place) → count p ts ≤ 1 → find p ts ≡ Some x → with_part part p g ts ≡ relisted part p (g (list_of part x)) ts
with_part-is part p g ts x one found =
    let self = relisted-self part None p ts x one found in
    ap (with_part part p g) (sym self) ∙ with_part-relisted part p g (list_of part x) ts (list-apart part None p ts x one found)

-- ---- the parent of a root is the node above
pub root-found : (o : Option ℕ) (i : ℕ) (ts : Trees) (x : Place) → 0 < held i (roots ts) → count i ts ≤ 1 → find_below o i ts ≡ Some x → x.parent ≡ o
root-found o i no_trees x some one found = absurd (omega arith)
root-found o i (tree c bs cs rest) x some one found =
    ⊎_elim
    (λ t. (let f = rw t.0 at found in (let is : x ≡ record { parent = o; content = c; attributes = bs; children = cs } = cc in rw is refl)))
    (λ t. (let s = rw t.0 at some in let l = rw t.0 at one in let k = held-roots i rest in
    ⊎_elim (λ a. (let z = a.2 in absurd (omega arith))) (λ d. ⊎_elim (λ a. (let z = a.2 in absurd (omega arith))) (λ a. root-found o i rest x (omega arith) (omega arith) a.2) d) (find-beside o i c bs cs rest x t.0 one found).where_it_is))
    (eqb_tells i c.identity)
