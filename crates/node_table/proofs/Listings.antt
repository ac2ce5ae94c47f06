-- What the rows of a forest's table list.
use Rattle.std.proofs.Common.{◌≡◌, ℕ, ◌+◌, ◌≤◌, ◌<◌, ◌^◌, length, refl, ap, ◌∙◌, arith, ⊎_elim, Option, Some, None}
use Rattle.std.proofs.lemmas.Bool.Decides.{eqb_tells}
use Rattle.std.proofs.lemmas.List.{length-append}
use Rattle.data_model.specs.Trees.{Trees, no_trees, tree, roots, count, size}
use Rattle.data_model.specs.Walks.{held}
use Rattle.node_table.specs.Flat.{Entry, Table, Holds, IsTableOf}
use Rattle.node_table.specs.Labels.{AreListed, lists_in, parent_in}
use Rattle.data_model.proofs.Climbs.{any-tells}
use Rattle.data_model.proofs.Firsts.{held-append}
use Rattle.node_table.proofs.Tables.{find-table, count-there}
use Rattle.node_table.proofs.Takes.{count-most}
use Rattle.node_table.proofs.Onces.{once-below}
use Rattle.node_table.proofs.Axes.{Below, lists-below}

-- a list is no longer than there are nodes
pub length-roots : (ts : Trees) → length (roots ts) ≤ size ts
length-roots no_trees = omega arith
length-roots (tree c bs cs rest) = omega (arith, length-roots rest)

lists-size : (f : Table) (p : Option ℕ) (ts : Trees) (i : ℕ) → Holds f p ts → 0 < count i ts → length (lists_in (f i)) ≤ size ts
lists-size f p no_trees i h k = absurd (omega arith)
lists-size f p (tree c bs cs rest) i h k =
    ⊎_elim (λ t. (let at : length (lists_in (f i)) ≡ length (roots bs) + length (roots cs) = ap (λ o. length (lists_in o)) (ap f t.1 ∙ h.0) ∙ length-append (roots bs) (roots cs) in omega (arith, length-roots bs, length-roots cs)))
    (λ t. (let z = rw t.0 at k in
    ⊎_elim (λ u. (let l = lists-size f (Some c.identity) bs i h.1 u.1 in omega arith))
    (λ u. ⊎_elim (λ v. (let l = lists-size f (Some c.identity) cs i h.2 v.1 in omega arith)) (λ v. (let nb : count i bs ≡ 0 = u.1 in let nc : count i cs ≡ 0 = v.1 in let l = lists-size f p rest i h.3 (omega arith) in omega arith)) (any-tells (count i cs)))
    (any-tells (count i bs)))) (eqb_tells i c.identity)

some-or-none : (o : Option Entry) (A : Type 0) → (o ≡ None → A) → ((e : Entry) → o ≡ Some e → A) → A
some-or-none None A h k = h refl
some-or-none (Some e) A h k = k e refl

parent-below : (f : Table) (b a : ℕ) → Below f b (Some a) → parent_in (f b) ≡ Some a
unfolding Below
parent-below f b a h = ap parent_in h.1 ∙ h.2

pub listed-of : (f : Table) (n : ℕ) (ts : Trees) → IsTableOf f n ts → n ≤ 2 ^ 62 → AreListed f
listed-of f n ts h bound = record {
  below = λ i j k. some-or-none (f i) _ (λ none. (let z : held j (lists_in (f i)) ≡ 0 = ap (λ o. held j (lists_in o)) none in absurd (omega arith)))
      (λ e at. (let sum : held j (lists_in (f i)) ≡ held j e.attributes + held j e.children = ap (λ o. held j (lists_in o)) at ∙ held-append j e.attributes e.children in
      let there = count-there f n ts i e h at in
      parent-below f j i (lists-below f None ts i j e h.holds (omega arith) at (omega arith))));
  once = λ i j. some-or-none (f i) _ (λ none. (let z : held j (lists_in (f i)) ≡ 0 = ap (λ o. held j (lists_in o)) none in omega arith))
      (λ e at. (let sum : held j (lists_in (f i)) ≡ held j e.attributes + held j e.children = ap (λ o. held j (lists_in o)) at ∙ held-append j e.attributes e.children in
      let one = once-below j i ts e (count-most f n ts j h) (find-table f n ts i h ∙ at) in
      omega arith));
  few = λ i. some-or-none (f i) _ (λ none. (let z : length (lists_in (f i)) ≡ 0 = ap (λ o. length (lists_in o)) none in omega arith))
      (λ e at. (let there = count-there f n ts i e h at in let l = lists-size f None ts i h.holds (omega arith) in let m = h.fits in omega arith));
}
