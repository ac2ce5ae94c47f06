-- Elements of a name below a node, sought among what is listed for the name.
use Prim.Native.Nat.{zero, suc}
use Rattle.std.proofs.Common.{◌≡◌, ℕ, ◌+◌, ◌≤◌, ◌<◌, Bool, true, false, ◌&&◌, ◌||◌, not, List, [], ◌∷◌, ◌++◌, filter, eqb, refl, ap, sym, ◌∙◌, arith, ⊎_elim, Option, Some, None, IsSome, subst}
use Rattle.std.specs.Str.{bytes_eq}
use Rattle.std.specs.List.{list_any}
use Rattle.std.proofs.lemmas.List.Elements.{filter-append}
use Rattle.std.proofs.lemmas.Slice.Eq.{bytes_eq-Decides}
use Rattle.data_model.specs.Trees.{Trees, Place, find, parent_at, parent_of, attributes_of, children_of, count, size, IsAt}
use Rattle.data_model.specs.Order.{identities}
use Rattle.data_model.specs.Walks.{depth_of}
use Rattle.data_model.specs.Axes.{is_in, is_ancestor, is_descendant, is_some_attribute, is_some_attribute_at}
use Rattle.data_model.specs.declared.axis.Axis.{Axis}
use Rattle.data_model.specs.declared.axis.Axis.TheVariants.{Descendant, DescendantOrSelf}
use Rattle.data_model.specs.declared.node.Kind.{Kind}
use Rattle.data_model.specs.declared.node.Kind.TheVariants.{Document, Element, Attribute, Text, Comment, Instruction}
use Rattle.data_model.proofs.Climbs.{AreDistinct, any-tells, climb-up, there-counts}
use Rattle.data_model.proofs.Weights.{weigh-append}
use Rattle.trees.proofs.Lent.{find-lent, find-own}
use Rattle.node_table.proofs.Axes.{filter-same, ancestor-up}
use Rattle.shelves.specs.Shelf.{ShelfTerm, IsShelf, shelf_trees}
use Rattle.query_grammar.specs.declared.ast.NodeTest.{NodeTest}
use Rattle.query_grammar.specs.declared.ast.NodeTest.TheVariants as node_test
use Rattle.query_meaning.specs.Paths.{is_element, is_principal, passes_at, tested_nodes}
use Rattle.query_steps.specs.Below.{levels_below}
use Rattle.query_steps.proofs.Descendants.{descendants-walked, descendants-or-self-walked}
use Rattle.query_steps.proofs.Lists.{both-true, filter-both, in-filter, eqb-turned, and-turned}
use Rattle.query_steps.proofs.Ancestors.{parent-is, parent-found, up, ancestor-none, ancestor-some}

-- ---- tests
pub passing-there : (a : Axis) (t : NodeTest) (o : Option Place) → passes_at a t o ≡ true → IsSome o
passing-there a t None h = cc
passing-there a t (Some x) h = refl

element-only : (k : Kind) → is_element k ≡ true → k ≡ Element
element-only Document h = cc
element-only Element h = refl
element-only Attribute h = cc
element-only Text h = cc
element-only Comment h = cc
element-only Instruction h = cc

-- what passes the test of a name, on an axis whose principal nodes are elements, is an element of that name
pub named-at : (a : Axis) → ((k : Kind) → is_principal a k ≡ is_element k) → (n : List ℕ) (o : Option Place) → passes_at a (node_test.Name n) o ≡ true → IsAt o (λ c. (c.kind ≡ Element) × (c.name ≡ n))
named-at a elements n None h = cc
named-at a elements n (Some x) h =
    let both = both-true (is_principal a x.content.kind) (bytes_eq n x.content.name) h in
    (element-only x.content.kind (sym (elements x.content.kind) ∙ both.0), sym ((bytes_eq-Decides n x.content.name).0 both.1))

-- ---- one node
pub turned-any : (i : ℕ) (ks : List ℕ) → list_any (λ j. eqb j i) ks ≡ is_in i ks
turned-any i [] = refl
turned-any i (k ∷ ks) = rw (eqb-turned k i, turned-any i ks) refl

module _ (ts : Trees) (d : AreDistinct ts) (root node : ℕ) where
  pub descendant-none : parent_of node ts ≡ None → false ≡ is_descendant ts root node
  descendant-none none = sym (ap (λ b. b && not (is_some_attribute ts node)) (ancestor-none ts d node root none))

  module _ (p : ℕ) (is : parent_of node ts ≡ Some p) where
    attribute-is : is_some_attribute ts node ≡ list_any (λ j. eqb j node) (attributes_of p ts)
    attribute-is = ap (is_some_attribute_at ts node) is ∙ sym (turned-any node (attributes_of p ts))

    pub descendant-attribute : list_any (λ j. eqb j node) (attributes_of p ts) ≡ true → false ≡ is_descendant ts root node
    descendant-attribute h = sym (ap (λ b. is_ancestor ts node root && not b) (attribute-is ∙ h) ∙ and-turned (is_ancestor ts node root) false)

    pub descendant-up : list_any (λ j. eqb j node) (attributes_of p ts) ≡ false → (eqb p root || is_ancestor ts p root) ≡ is_descendant ts root node
    descendant-up h = sym (ap (λ b. is_ancestor ts node root && not b) (attribute-is ∙ h) ∙ and-turned (is_ancestor ts node root) true ∙ ancestor-some ts d node root p is)

-- on the way up
not-true : (b : Bool) → not b ≡ true → b ≡ false
not-true true h = cc
not-true false h = refl

module _ (ts : Trees) (d : AreDistinct ts) (root at : ℕ) (other : not (eqb at root) ≡ true) where
  further : (eqb at root || is_ancestor ts at root) ≡ is_ancestor ts at root
  further = ap (λ b. b || is_ancestor ts at root) (not-true (eqb at root) other)

  pub at-top : parent_of at ts ≡ None → false ≡ (eqb at root || is_ancestor ts at root)
  at-top none = sym (further ∙ ancestor-none ts d at root none)

  pub at-up : (p : ℕ) → parent_of at ts ≡ Some p → (eqb p root || is_ancestor ts p root) ≡ (eqb at root || is_ancestor ts at root)
  at-up p is = sym (further ∙ ancestor-some ts d at root p is)

-- ---- the tree of a node of the lent forest
module _ (s : ShelfTerm) (facts : IsShelf s) (a : ℕ) (lent : IsSome (find a s.lent.trees)) where
  abbrev ts : Trees
  ts = shelf_trees s

  -- an own node has no parent that is lent
  pub own-parent : (j p : ℕ) → parent_of j ts ≡ Some p → count j s.lent.trees ≡ 0 → count p s.lent.trees ≡ 0
  own-parent j p is none =
      let own : parent_of j s.own.trees ≡ Some p = ap parent_at (sym (find-own j s.lent.trees s.own.trees none)) ∙ is in
      let above = climb-up j p s.own.trees facts.own.distinct (parent-found (find j s.own.trees) p own) own in
      let there = there-counts p s.own.trees above.0 in
      let sum : count p ts ≡ count p s.lent.trees + count p s.own.trees = weigh-append _ s.lent.trees s.own.trees in
      let once = facts.distinct p in
      omega arith

  below-lent-by : (j : ℕ) → is_ancestor ts j a ≡ true → ((p : ℕ) → depth_of p ts < depth_of j ts → is_ancestor ts p a ≡ true → 0 < count p s.lent.trees) → 0 < count j s.lent.trees
  below-lent-by j anc above =
      let there = there-counts a s.lent.trees lent in
      ⊎_elim (λ t. t.1)
      (λ t. ⊎_elim
      (λ l. (let none = own-parent j a (parent-is (parent_of j ts) a l) t.1 in absurd (omega arith)))
      (λ r. (let is = parent-is (parent_of j ts) r.0 r.1 in
      let none = own-parent j r.0 is t.1 in
      let some = above r.0 (up ts facts.distinct j r.0 is).2 r.2 in
      absurd (omega arith)))
      (ancestor-up ts facts.distinct a j anc))
      (any-tells (count j s.lent.trees))

  below-lent : (n j : ℕ) → depth_of j ts ≤ n → is_ancestor ts j a ≡ true → 0 < count j s.lent.trees
  below-lent zero j deep anc = below-lent-by j anc (λ p less h. absurd (omega (arith, deep, less)))
  below-lent (suc n) j deep anc = below-lent-by j anc (λ p less h. below-lent n p (omega (arith, deep, less)) h)

  -- a descendant of the name is listed
  module _ (n : List ℕ) (ids : List ℕ) (listed : (i : ℕ) → IsAt (find i s.lent.trees) (λ c. (c.kind ≡ Element) × (c.name ≡ n)) → is_in i ids ≡ true) where
    abbrev is_wanted : ℕ → Bool
    is_wanted j = passes_at Descendant (node_test.Name n) (find j ts) && is_descendant ts a j

    wanted-listed : (j : ℕ) → is_wanted j ≡ true → is_in j ids ≡ true
    wanted-listed j h =
        let both = both-true (passes_at Descendant (node_test.Name n) (find j ts)) (is_descendant ts a j) h in
        let below = both-true (is_ancestor ts j a) (not (is_some_attribute ts j)) both.1 in
        let P : Option Place → Type 0 = λ o. IsAt o (λ c. (c.kind ≡ Element) × (c.name ≡ n)) in
        listed j (subst P (find-lent j s.lent.trees s.own.trees (below-lent (depth_of j ts) j (omega arith) below.0)) (named-at Descendant (λ k. refl) n (find j ts) both.0))

    wanted-in : (j : ℕ) → is_in j (filter is_wanted ids) ≡ is_wanted j
    wanted-in j = in-filter is_wanted j ids ∙ by (is_wanted j) (is_in j ids) (wanted-listed j)
      where
        by : (w l : Bool) → (w ≡ true → l ≡ true) → (w && l) ≡ w
        by true l h = h refl
        by false l h = refl

    -- those that are listed, in document order, are those of the axis that pass
    named-tested : filter (λ i. is_in i (filter is_wanted ids)) (identities ts) ≡ tested_nodes Descendant (node_test.Name n) a ts
    named-tested =
        filter-same (λ i. is_in i (filter is_wanted ids)) (λ j. is_descendant ts a j && passes_at Descendant (node_test.Name n) (find j ts)) (identities ts)
        (λ j _. wanted-in j ∙ and-turned (passes_at Descendant (node_test.Name n) (find j ts)) (is_descendant ts a j))
        ∙ sym (filter-both (λ j. passes_at Descendant (node_test.Name n) (find j ts)) (is_descendant ts a) (identities ts))

    pub named-answer : (t : NodeTest) → t ≡ node_test.Name n → (nodes wanted : List ℕ) → nodes ≡ filter (λ i. is_in i wanted) (identities ts)
        → wanted ≡ filter (λ i. passes_at Descendant t (find i ts) && is_descendant ts a i) ids → nodes ≡ tested_nodes Descendant t a ts
    named-answer t is nodes wanted found kept =
        found ∙ ap (λ (ws : List ℕ). filter (λ i. is_in i ws) (identities ts)) (kept ∙ ap (λ (u : NodeTest). filter (λ i. passes_at Descendant u (find i ts) && is_descendant ts a i) ids) is)
        ∙ named-tested ∙ ap (λ (u : NodeTest). tested_nodes Descendant u a ts) (sym is)

-- ---- the node itself too
-- neither axis has attributes
same-test : (t : NodeTest) (o : Option Place) → passes_at Descendant t o ≡ passes_at DescendantOrSelf t o
same-test t None = refl
same-test (node_test.Name n) (Some x) = refl
same-test node_test.AnyName (Some x) = refl
same-test (node_test.Kind k) (Some x) = refl

pub tested-or-self : (t : NodeTest) (ts : Trees) → AreDistinct ts → (a : ℕ) → IsSome (find a ts)
    → filter (λ j. passes_at DescendantOrSelf t (find j ts)) (a ∷ []) ++ tested_nodes Descendant t a ts ≡ tested_nodes DescendantOrSelf t a ts
tested-or-self t ts d a there =
    let p : ℕ → Bool = λ j. passes_at Descendant t (find j ts) in
    let q : ℕ → Bool = λ j. passes_at DescendantOrSelf t (find j ts) in
    let walked : List ℕ = levels_below (size ts) ts false (attributes_of a ts) ++ levels_below (size ts) ts true (children_of a ts) in
    ap (λ xs. filter q (a ∷ []) ++ filter p xs) (descendants-walked ts d a there)
    ∙ ap (λ xs. filter q (a ∷ []) ++ xs) (filter-same p q walked (λ j _. same-test t (find j ts)))
    ∙ sym (filter-append q (a ∷ []) walked)
    ∙ ap (filter q) (sym (descendants-or-self-walked ts d a there))
