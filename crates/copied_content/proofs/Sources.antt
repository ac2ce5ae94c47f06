-- The trees that are copied of a node.
use Rattle.std.specs.Prelude.{◌↔◌, IsTrue, not, nat_eq, length}
use Rattle.std.proofs.lemmas.Bool.{cases_lt}
use Rattle.std.proofs.lemmas.Bool.Decides.{nat_tests}
use Rattle.std.proofs.Common.{⊎_elim, ◌≡◌, ℕ, ◌+◌, ◌≤◌, ◌<◌, Bool, true, false, if◌then◌else◌, List, [], ◌∷◌, Option, Some, None, IsSome, refl, ap, ap₂, sym, ◌∙◌, subst, arith}
use Rattle.data_model.specs.Changes.{pick}
use Rattle.data_model.specs.Tidy.{is_document}
use Rattle.data_model.specs.Tree.{TreeTerm, trees_of_tree}
use Rattle.data_model.specs.Trees.{Trees, no_trees, tree, Content, Place, find, roots, size, attributes_at, attributes_of, IsAt}
use Rattle.data_model.specs.declared.node.Kind.TheVariants.{Document}
use Rattle.data_model.proofs.Climbs.{AreDistinct}
use Rattle.data_model.proofs.Weights.{weigh-pick}
use Rattle.trees.proofs.CallerLemmas.{picked-place}
use Rattle.values.specs.declared.atom.Item.{Item}
use Rattle.values.specs.declared.atom.Item.TheVariants as item
use Rattle.values.specs.Items.{IsThere}
use Rattle.query_meaning.specs.Content.{source_at}
use Rattle.query_meaning.specs.Running.{Run, trees_of}
use Rattle.evaluation.specs.Gives.{Grows}
use Rattle.copied_content.specs.Copying.{IsPlain, source_of}

none_of : (ts : Trees) → roots ts ≡ [] → ts ≡ no_trees
none_of no_trees e = refl
none_of (tree c bs cs rest) e = cc

-- a document without attributes has one node more than is copied of it
pub document_size : (i : ℕ) (ts : Trees) (o : Option Place) → AreDistinct ts → find i ts ≡ o → IsAt o (λ c. Document ≡ c.kind) → attributes_at o ≡ [] → size (pick i ts) ≡ size (source_at i ts o) + 1
document_size i ts None d found at bare = absurd at
document_size i ts (Some x) d found at bare =
    let whole : size (pick i ts) ≡ 1 + size x.attributes + size x.children + 0 = ap size (picked-place None i ts x d found) in
    let none : size x.attributes ≡ 0 = ap size (none_of x.attributes bare) in
    let source : size (source_at i ts (Some x)) ≡ size x.children = ap (λ k. size (if is_document k then x.children else pick i ts)) (sym at) in
    omega (arith, whole, none, source)

-- the tree of a node, or a document's children
pub picked_source : (i : ℕ) (ts : Trees) (o : Option Place) (t : TreeTerm) → AreDistinct ts → find i ts ≡ o → IsSome o → trees_of_tree t ≡ pick i ts → source_of t ≡ source_at i ts o
picked_source i ts None t d found there is = cc
picked_source i ts (Some x) t d found there is =
    let same : trees_of_tree t ≡ tree x.content x.attributes x.children no_trees = is ∙ picked-place None i ts x d found in
    let here : t.content ≡ x.content = cc in
    let below : t.children ≡ x.children = cc in
    ap (λ (c : Content). if is_document c.kind then t.children else trees_of_tree t) here ∙ ap₂ (λ cs us. if is_document x.content.kind then cs else us) below is

-- no tree among others has more nodes
pub picked_few : (i : ℕ) (ts : Trees) → size (pick i ts) ≤ size ts
picked_few i ts = let e = weigh-pick (λ _. 1) i ts in omega (arith, e)

-- what is copied of a node has no more than its tree
pub source_few : (i : ℕ) (ts : Trees) (o : Option Place) → AreDistinct ts → find i ts ≡ o → size (source_at i ts o) ≤ size (pick i ts)
source_few i ts None d found = omega arith
source_few i ts (Some x) d found = of (is_document x.content.kind)
  where
    of : (b : Bool) → size (if b then x.children else pick i ts) ≤ size (pick i ts)
    of true = let whole : size (pick i ts) ≡ 1 + size x.attributes + size x.children + 0 = ap size (picked-place None i ts x d found) in omega (arith, whole)
    of false = omega arith

-- no attributes
pub bare : (xs : List ℕ) (b : Bool) → b ≡ nat_eq (length xs) 0 → b ≡ true → xs ≡ []
bare [] b is e = refl
bare (x ∷ xs) b is e = absurd (grind (arith, nat_tests))

-- what is not within is more
pub passes : (b : Bool) (n most size : ℕ) → IsTrue b ↔ (n ≤ most + 1) → n ≡ size + 1 → IsTrue (not b) → most < size
passes true n most size h e t = cc
passes false n most size h e t = ⊎_elim (λ l. l) (λ l. (let no : false ≡ true = h.1 (omega (arith, l, e)) in cc)) (cases_lt most size)

pub is_more : (b : Bool) (n most size : ℕ) → IsTrue b ↔ (n ≤ most + 1) → n ≡ size + 1 → most < size → IsTrue (not b)
is_more true n most size h e over = let within : n ≤ most + 1 = h.0 refl in absurd (omega (arith, within, e, over))
is_more false n most size h e over = refl

-- a document with attributes
pub not_plain : (i : ℕ) (ts : Trees) (o : Option Place) (xs : List ℕ) (b : Bool) → find i ts ≡ o → IsAt o (λ c. Document ≡ c.kind) → xs ≡ attributes_of i ts → b ≡ nat_eq (length xs) 0 → b ≡ false → IsPlain i ts → ⊥
not_plain i ts None xs b found at same is e plain = at
not_plain i ts (Some x) xs b found at same is e plain =
    let P : Option Place → Type 0 = λ o. IsAt o (λ c. c.kind ≡ Document → attributes_of i ts ≡ []) in
    let none : attributes_of i ts ≡ [] = subst P found plain (sym at) in
    let all : nat_eq (length xs) 0 ≡ true = ap (λ ys. nat_eq (length ys) 0) (same ∙ none) in
    cc

-- a node still stands
pub still_there : (x : Item) (old new : Run) → Grows old new → IsThere (trees_of old) x → IsThere (trees_of new) x
still_there (item.Node i) old new h there = h.kept i there
still_there (item.Atomic a) old new h there = tt
