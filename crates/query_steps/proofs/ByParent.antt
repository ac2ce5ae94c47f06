-- Elements of a name that are listed by their parents.
use Rattle.std.proofs.Common.{◌≡◌, ℕ, ◌<◌, Bool, true, false, cond, ◌&&◌, List, [], ◌∷◌, ◌++◌, filter, eqb, nat_eq, unwrap_or, option_map, refl, ap, sym, ◌∙◌, arith, subst, ⊎_elim, inl, Option, Some, None, IsSome, is_some, Vec, Global}
use Rattle.std.specs.HashMap.{HashMap, Updates, get}
use Rattle.std.specs.List.{list_any}
use Rattle.std.specs.Map.{lookup}
use Rattle.std.proofs.lemmas.Bool.Decides.{eqb_tells}
use Rattle.std.proofs.lemmas.Map.Made.{lookup-map_values}
use Rattle.data_model.specs.Trees.{Trees, Place, find, parent_at, parent_of, attributes_of, children_at, count, IsAt}
use Rattle.data_model.specs.Order.{identities}
use Rattle.data_model.specs.Axes.{is_in, is_child, is_attribute, is_parent_at}
use Rattle.data_model.specs.declared.axis.Axis.TheVariants.{Child}
use Rattle.data_model.specs.declared.node.Kind.TheVariants.{Element}
use Rattle.data_model.specs.declared.node.NodeView.{NodeView}
use Rattle.data_model.specs.Views.{Views}
use Rattle.data_model.proofs.Climbs.{AreDistinct, any-tells, there-counts}
use Rattle.data_model.proofs.Weights.{eqb-same}
use Rattle.trees.proofs.Lent.{find-lent}
use Rattle.node_table.proofs.Axes.{filter-same, parent-lists, lists-parent, child-no-attribute}
use Rattle.shelves.specs.Shelf.{ShelfTerm, IsShelf, shelf_trees}
use Rattle.shelves.proofs.Shelves.{find-not-own}
use Rattle.query_grammar.specs.declared.ast.NodeTest.{NodeTest}
use Rattle.query_grammar.specs.declared.ast.NodeTest.TheVariants as node_test
use Rattle.query_meaning.specs.Paths.{passes_at, tested_nodes}
use Rattle.query_steps.specs.ByParent.{ListsChildren, listed_of, lists_of}
use Rattle.query_steps.proofs.Ancestors.{parent-is}
use Rattle.query_steps.proofs.ByName.{named-at, own-parent, turned-any}
use Rattle.query_steps.proofs.Lists.{filter-both, in-filter, same-tests}

-- ---- what is listed
listed-entries : (es : List (ℕ × Vec ℕ Global)) (i : ℕ) → listed_of i (lists_of es) ≡ unwrap_or (option_map (λ v. v.items) (lookup (eqb i) es)) []
listed-entries es i = ap (λ o. unwrap_or o []) (lookup-map_values (λ (v : Vec ℕ Global). v.items) (eqb i) es)

pub listed-found : {S : Type 0} (m : HashMap ℕ (Vec ℕ Global) S) (k i : ℕ) (lists : List (ℕ × List ℕ)) (o : Option (Vec ℕ Global)) → k ≡ i → lists_of m.entries ≡ lists → o ≡ get nat_eq m k
    → unwrap_or (option_map (λ v. v.items) o) [] ≡ listed_of i lists
listed-found m k i lists o same are found =
    ap (λ (p : Option (Vec ℕ Global)). unwrap_or (option_map (λ v. v.items) p) []) found ∙ sym (listed-entries m.entries k) ∙ ap (λ j. listed_of j (lists_of m.entries)) same ∙ ap (listed_of i) are

-- a node more after those of the node k, of which o says what is listed
pub pushed : {S : Type 0} (m n : HashMap ℕ (Vec ℕ Global) S) (key k : ℕ) (o : Option (Vec ℕ Global)) (w : Vec ℕ Global) (j : ℕ) → key ≡ k → o ≡ get nat_eq m key → Updates nat_eq m n key (Some w)
    → w.items ≡ unwrap_or (option_map (λ v. v.items) o) [] ++ j ∷ [] → (p : ℕ) → listed_of p (lists_of n.entries) ≡ cond (eqb k p) (listed_of p (lists_of m.entries) ++ j ∷ []) (listed_of p (lists_of m.entries))
pushed m n key k o w j same found written is p =
    listed-entries n.entries p ∙ ap (λ (q : Option (Vec ℕ Global)). unwrap_or (option_map (λ v. v.items) q) []) (written.0 p) ∙ ap (λ i. unwrap_or (option_map (λ (v : Vec ℕ Global). v.items) (cond (eqb i p) (Some w) (get nat_eq m p))) []) same
    ∙ ⊎_elim (λ t. rw t.0 (is ∙ ap (λ xs. xs ++ j ∷ []) (listed-found m key p (lists_of m.entries) o (same ∙ t.1) refl found))) (λ t. rw t.0 (sym (listed-entries m.entries p))) (eqb_tells k p)

-- ---- what one look-up says of a node
pub viewed-none : (o : Option Place) → Views None o → parent_at o ≡ None
viewed-none None h = refl
viewed-none (Some x) h = absurd h

pub viewed-parent : (v : NodeView) (o : Option Place) → Views (Some v) o → parent_at o ≡ v.parent
viewed-parent v None h = absurd h
viewed-parent v (Some x) h = sym h.parent

viewed-there : (v : NodeView) (o : Option Place) → Views (Some v) o → IsSome o
viewed-there v None h = absurd h
viewed-there v (Some x) h = refl

pub viewed-children : (v : NodeView) (o : Option Place) → Views (Some v) o → v.children.now ≡ children_at o
viewed-children v None h = absurd h
viewed-children v (Some x) h = h.children

-- a node that is no own one stands in the lent forest
pub viewed-lent : (s : ShelfTerm) (i : ℕ) (v : NodeView) → is_some (find i s.own.trees) ≡ false → Views (Some v) (find i (shelf_trees s)) → IsSome (find i s.lent.trees)
viewed-lent s i v other h =
    let P : Option Place → Type 0 = λ o. IsSome o in
    subst P (find-not-own i s.lent.trees s.own.trees other) (viewed-there v (find i (shelf_trees s)) h)

-- ---- whose child a node is
module _ (ts : Trees) (d : AreDistinct ts) (node : ℕ) where
  pub child-parent : (p : ℕ) → is_child ts p node ≡ true → parent_of node ts ≡ Some p
  child-parent p h = parent-is (parent_of node ts) p (lists-parent ts d p node (inl h))

  pub no-parent : parent_of node ts ≡ None → (p : ℕ) → false ≡ is_child ts p node
  no-parent none p = same-tests false (is_child ts p node) (λ h. (let z : false ≡ true = h in cc)) (λ h. (let z : None ≡ Some p = sym none ∙ child-parent p h in cc))

  module _ (a : ℕ) (is : parent_of node ts ≡ Some a) where
    one-parent : (p : ℕ) → is_child ts p node ≡ true → a ≡ p
    one-parent p h = let z : Some a ≡ Some p = sym is ∙ child-parent p h in cc

    pub attribute-is-none : list_any (λ j. eqb j node) (attributes_of a ts) ≡ true → (p : ℕ) → false ≡ is_child ts p node
    attribute-is-none h p = same-tests false (is_child ts p node) (λ e. (let z : false ≡ true = e in cc))
        (λ e. (let own : is_attribute ts p node ≡ true = ap (λ i. is_attribute ts i node) (sym (one-parent p e)) ∙ sym (turned-any node (attributes_of a ts)) ∙ h in
        let z : false ≡ true = sym (child-no-attribute ts d p node e) ∙ own in cc))

    child-of : list_any (λ j. eqb j node) (attributes_of a ts) ≡ false → is_child ts a node ≡ true
    child-of h = ⊎_elim (λ l. l) (λ r. (let z : false ≡ true = sym h ∙ turned-any node (attributes_of a ts) ∙ r in cc))
        (parent-lists ts d a node (ap (λ o. is_parent_at o a) is ∙ eqb-same a))

    pub other-is-child : list_any (λ j. eqb j node) (attributes_of a ts) ≡ false → (p : ℕ) → eqb a p ≡ is_child ts p node
    other-is-child h p = same-tests (eqb a p) (is_child ts p node)
        (λ e. ⊎_elim (λ t. ap (λ i. is_child ts i node) (sym t.1) ∙ child-of h) (λ t. (let z : false ≡ true = sym t.0 ∙ e in cc)) (eqb_tells a p))
        (λ e. ap (eqb a) (sym (one-parent p e)) ∙ eqb-same a)

-- ---- the children of nodes of the lent forest
module _ (s : ShelfTerm) (facts : IsShelf s) (n : List ℕ) (ids : List ℕ) (listed : (i : ℕ) → IsAt (find i s.lent.trees) (λ c. (c.kind ≡ Element) × (c.name ≡ n)) → is_in i ids ≡ true) where
  abbrev ts : Trees
  ts = shelf_trees s

  abbrev passes : ℕ → Bool
  passes i = passes_at Child (node_test.Name n) (find i ts)

  module _ (a : ℕ) (lent : IsSome (find a s.lent.trees)) where
    child-lent : (i : ℕ) → is_child ts a i ≡ true → 0 < count i s.lent.trees
    child-lent i h = ⊎_elim (λ t. t.1)
        (λ t. (let none = own-parent s facts a lent i a (child-parent ts facts.distinct i a h) t.1 in let there = there-counts a s.lent.trees lent in absurd (omega arith)))
        (any-tells (count i s.lent.trees))

    child-listed : (i : ℕ) → is_child ts a i ≡ true → passes i ≡ true → is_in i ids ≡ true
    child-listed i h passing =
        let P : Option Place → Type 0 = λ o. IsAt o (λ c. (c.kind ≡ Element) × (c.name ≡ n)) in
        listed i (subst P (find-lent i s.lent.trees s.own.trees (child-lent i h)) (named-at Child (λ k. refl) n (find i ts) passing))

    kept-once : (w l k : Bool) → (k ≡ true → w ≡ true → l ≡ true) → ((w && l) && k) ≡ (k && w)
    kept-once true true true h = refl
    kept-once true true false h = refl
    kept-once true false true h = h refl refl
    kept-once true false false h = refl
    kept-once false l true h = refl
    kept-once false l false h = refl

    named-children : filter (is_child ts a) (filter (λ i. is_in i (filter passes ids)) (identities ts)) ≡ tested_nodes Child (node_test.Name n) a ts
    named-children =
        filter-both (is_child ts a) (λ i. is_in i (filter passes ids)) (identities ts)
        ∙ filter-same (λ i. is_in i (filter passes ids) && is_child ts a i) (λ i. is_child ts a i && passes i) (identities ts)
        (λ i _. ap (λ b. b && is_child ts a i) (in-filter passes i ids) ∙ kept-once (passes i) (is_in i ids) (is_child ts a i) (child-listed i))
        ∙ sym (filter-both passes (is_child ts a) (identities ts))

  pub lists-children : (t : NodeTest) → t ≡ node_test.Name n → (named ordered seen : List ℕ) (lists : List (ℕ × List ℕ)) → named ≡ filter (λ i. passes_at Child t (find i ts)) ids
      → ordered ≡ filter (λ i. is_in i named) (identities ts) → seen ≡ ordered → ((p : ℕ) → listed_of p lists ≡ filter (is_child ts p) seen) → ListsChildren t s lists
  lists-children t is named ordered seen lists kept found same by = record {
    each = λ a lent.
        by a ∙ ap (filter (is_child ts a)) (same ∙ found ∙ ap (λ (ws : List ℕ). filter (λ i. is_in i ws) (identities ts)) (kept ∙ ap (λ (u : NodeTest). filter (λ i. passes_at Child u (find i ts)) ids) is))
        ∙ named-children a lent ∙ ap (λ (u : NodeTest). tested_nodes Child u a ts) (sym is);
  }
