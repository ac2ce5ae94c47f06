-- Attributes, and what is none.
use Rattle.std.proofs.Common.{◌≡◌, Bool, true, false, ◌&&◌, if◌then◌else◌, List, [], ◌∷◌, ◌++◌, refl, ap, sym, ◌∙◌}
use Rattle.std.specs.Prelude.{not}
use Rattle.std.specs.List.{list_all}
use Rattle.data_model.specs.Tree.{TreeTerm, all_of, trees_of_tree}
use Rattle.data_model.specs.Trees.{Trees, no_trees, tree, append}
use Rattle.data_model.specs.declared.node.Kind.{Kind}
use Rattle.data_model.proofs.Turns.{all_of-push}
use Rattle.data_model.proofs.Weights.{append-none}
use Rattle.copied_content.proofs.Merging.{both}
use Rattle.query_meaning.specs.Content.{those, are_all, attributes, others, is_attribute, is_other}

pub all_are : (f : Kind → Bool) (xs : List TreeTerm) → list_all (λ (t : TreeTerm). f t.content.kind) xs ≡ are_all f (all_of xs)
all_are f [] = refl
all_are f (x ∷ xs) = ap (λ b. f x.content.kind && b) (all_are f xs)

-- two lists of trees
pub all_of_both : (xs ys : List TreeTerm) → all_of (xs ++ ys) ≡ append (all_of xs) (all_of ys)
all_of_both [] ys = refl
all_of_both (x ∷ xs) ys = ap (tree x.content x.attributes x.children) (all_of_both xs ys)

-- one tree more
those_both : (f : Kind → Bool) (ts us : Trees) → those f (append ts us) ≡ append (those f ts) (those f us)
those_both f no_trees us = refl
those_both f (tree c bs cs rest) us = of (f c.kind) (those_both f rest us)
  where
    of : (b : Bool) → those f (append rest us) ≡ append (those f rest) (those f us)
        → (if b then tree c bs cs (those f (append rest us)) else those f (append rest us)) ≡ append (if b then tree c bs cs (those f rest) else those f rest) (those f us)
    of true h = ap (tree c bs cs) h
    of false h = h

pub those_more : (f : Kind → Bool) (b : Bool) (xs ys : List TreeTerm) (t : TreeTerm) → f t.content.kind ≡ b → all_of ys ≡ those f (all_of xs) → all_of (if b then ys ++ t ∷ [] else ys) ≡ those f (all_of (xs ++ t ∷ []))
those_more f b xs ys t e h = of b e ∙ sym (ap (those f) (all_of-push xs t) ∙ those_both f (all_of xs) (trees_of_tree t))
  where
    of : (b : Bool) → f t.content.kind ≡ b → all_of (if b then ys ++ t ∷ [] else ys) ≡ append (those f (all_of xs)) (if f t.content.kind then trees_of_tree t else no_trees)
    of true e = all_of-push ys t ∙ ap (λ us. append us (trees_of_tree t)) h ∙ ap (λ b. append (those f (all_of xs)) (if b then trees_of_tree t else no_trees)) (sym e)
    of false e = h ∙ sym (append-none (those f (all_of xs))) ∙ ap (λ b. append (those f (all_of xs)) (if b then trees_of_tree t else no_trees)) (sym e)

-- none is an attribute
no_attribute : (b : Bool) → not b ≡ true → b ≡ false
no_attribute true h = cc
no_attribute false h = refl

pub all_others : (ts : Trees) → are_all is_other ts ≡ true → (attributes ts ≡ no_trees) × (others ts ≡ ts)
all_others no_trees h = (refl, refl)
all_others (tree c bs cs rest) h =
    let each = both (is_other c.kind) (are_all is_other rest) h in
    let more = all_others rest each.1 in (
      ap (λ b. if b then tree c bs cs (attributes rest) else attributes rest) (no_attribute (is_attribute c.kind) each.0) ∙ more.0,
      ap (λ b. if b then tree c bs cs (others rest) else others rest) each.0 ∙ ap (tree c bs cs) more.1,
    )
