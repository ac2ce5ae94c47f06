-- Items that are gone through.
use Rattle.std.proofs.Common.{◌≡◌, ℕ, suc, ◌+◌, ◌<◌, ◌≤◌, Bool, true, false, ◌&&◌, List, [], ◌∷◌, ◌++◌, length, drop, slice_index_or, refl, ap, sym, ◌∙◌, add-one, append-nil, append_assoc}
use Rattle.data_model.specs.Trees.{Trees, find}
use Rattle.values.specs.declared.atom.Item.{Item}
use Rattle.values.specs.declared.atom.Item.TheVariants as item
use Rattle.query_meaning.specs.Operators.{nodes}
use Rattle.evaluation.proofs.Each.{drop_all, drop_item}
use Rattle.copied_content.proofs.Merging.{both}
use Rattle.query_elements.specs.Whole.{are_whole, is_whole_at, is_whole_item, nodes_in}

-- all of them go whole
pub whole_on : (ts : Trees) (xs : List Item) (k : ℕ) (x : Item) (b : Bool) → k < length xs → x ≡ slice_index_or xs k x → are_whole ts (drop k xs) ≡ are_whole ts xs → b ≡ is_whole_item ts x → b ≡ true
    → are_whole ts (drop (k + 1) xs) ≡ are_whole ts xs
whole_on ts xs k x b below here left is h =
    ap (λ n. are_whole ts (drop n xs)) (add-one k) ∙ sym (ap (are_whole ts) (drop_item xs k x below here) ∙ ap (λ d. d && are_whole ts (drop (suc k) xs)) (sym is ∙ h)) ∙ left

pub whole_not : (ts : Trees) (xs : List Item) (k : ℕ) (x : Item) (b : Bool) → k < length xs → x ≡ slice_index_or xs k x → are_whole ts (drop k xs) ≡ are_whole ts xs → b ≡ is_whole_item ts x → b ≡ false → false ≡ are_whole ts xs
whole_not ts xs k x b below here left is h = sym (ap (are_whole ts) (drop_item xs k x below here) ∙ ap (λ d. d && are_whole ts (drop (suc k) xs)) (sym is ∙ h)) ∙ left

pub whole_all : (ts : Trees) (xs : List Item) (k : ℕ) → length xs ≤ k → are_whole ts (drop k xs) ≡ are_whole ts xs → true ≡ are_whole ts xs
whole_all ts xs k past left = ap (are_whole ts) (sym (drop_all xs k past)) ∙ left

-- the nodes among them
one_more : (x : Item) (xs : List Item) → nodes_in (x ∷ xs) ≡ nodes_in (x ∷ []) ++ nodes_in xs
one_more (item.Node i) xs = refl
one_more (item.Atomic a) xs = refl

pub nodes_on : (xs : List Item) (k : ℕ) (x : Item) (old new : List ℕ) → k < length xs → x ≡ slice_index_or xs k x → old ++ nodes_in (drop k xs) ≡ nodes_in xs → new ≡ old ++ nodes_in (x ∷ []) → new ++ nodes_in (drop (k + 1) xs) ≡ nodes_in xs
nodes_on xs k x old new below here left added =
    ap (λ n. new ++ nodes_in (drop n xs)) (add-one k) ∙ ap (λ is. is ++ nodes_in (drop (suc k) xs)) added ∙ append_assoc old (nodes_in (x ∷ [])) (nodes_in (drop (suc k) xs))
    ∙ ap (λ is. old ++ is) (sym (ap nodes_in (drop_item xs k x below here) ∙ one_more x (drop (suc k) xs))) ∙ left

pub nodes_all : (xs : List Item) (k : ℕ) (ids : List ℕ) → length xs ≤ k → ids ++ nodes_in (drop k xs) ≡ nodes_in xs → ids ≡ nodes_in xs
nodes_all xs k ids past left = sym (append-nil ids) ∙ ap (λ ys. ids ++ nodes_in ys) (sym (drop_all xs k past)) ∙ left

-- items that go whole are their nodes
pub are_nodes : (ts : Trees) (xs : List Item) → are_whole ts xs ≡ true → nodes (nodes_in xs) ≡ xs
are_nodes ts [] h = refl
are_nodes ts (item.Node i ∷ xs) h = ap (λ ys. item.Node i ∷ ys) (are_nodes ts xs (both (is_whole_at (find i ts)) (are_whole ts xs) h).1)
are_nodes ts (item.Atomic a ∷ xs) h = cc
