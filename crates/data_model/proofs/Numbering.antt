-- Trees that are numbered one after the other.
use Rattle.std.proofs.Common.{◌≡◌, ℕ, ◌+◌, ◌<◌, ◌≤◌, List, ◌∷◌, length, take, drop, get_or, slice_set, refl, sym, ap, ◌∙◌, arith, add-one}
use Rattle.std.proofs.lemmas.List.{take_more_set, drop-set-lt, take_all}
use Rattle.std.proofs.Math.ListN.{drop_of_length-le}
use Rattle.std.proofs.Math.Seq.{drop-cons}
use Rattle.data_model.specs.Changes.{renumbered}
use Rattle.data_model.specs.Tree.{TreeTerm, all_of, trees_of_tree, tree_size}
use Rattle.data_model.specs.Trees.{Trees, no_trees, tree, append, size}
use Rattle.data_model.proofs.Turns.{all_of-push}
use Rattle.data_model.proofs.Weights.{append-none}

append-one : (ts us : Trees) (c : _) (bs cs : Trees) → append (append ts (tree c bs cs no_trees)) us ≡ append ts (tree c bs cs us)
append-one no_trees us c bs cs = refl
append-one (tree d ds es rest) us c bs cs = ap (λ vs. tree d ds es vs) (append-one rest us c bs cs)

-- one tree more is numbered
pub numbered-step : (xs : List TreeTerm) (i n m : ℕ) (d y : TreeTerm) (whole : Trees) → i < length xs → trees_of_tree y ≡ renumbered n (trees_of_tree (get_or xs i d)) → m ≡ n + tree_size (get_or xs i d)
    → append (all_of (take i xs)) (renumbered n (all_of (drop i xs))) ≡ whole → append (all_of (take (i + 1) (slice_set xs i y))) (renumbered m (all_of (drop (i + 1) (slice_set xs i y)))) ≡ whole
numbered-step xs i n m d y whole within numbered next h =
    let x = get_or xs i d in
    let here : drop i xs ≡ x ∷ drop (i + 1) xs = rw (drop-cons xs i d within, add-one) in
    let after : drop (i + 1) (slice_set xs i y) ≡ drop (i + 1) xs = drop-set-lt (i + 1) xs i y (omega arith) in
    let past : m ≡ n + 1 + size x.attributes + size x.children = omega (arith, next) in
    let rest = renumbered m (all_of (drop (i + 1) xs)) in
    ap (λ ts. append ts (renumbered m (all_of (drop (i + 1) (slice_set xs i y))))) (ap all_of (take_more_set xs i y within) ∙ all_of-push (take i xs) y ∙ ap (append (all_of (take i xs))) numbered)
    ∙ ap (λ zs. append (append (all_of (take i xs)) (renumbered n (trees_of_tree x))) (renumbered m (all_of zs))) after
    ∙ append-one (all_of (take i xs)) rest _ _ _
    ∙ ap (λ k. append (all_of (take i xs)) (tree (record x.content { identity = n }) (renumbered (n + 1) x.attributes) (renumbered (n + 1 + size x.attributes) x.children) (renumbered k (all_of (drop (i + 1) xs))))) past
    ∙ ap (λ zs. append (all_of (take i xs)) (renumbered n (all_of zs))) (sym here)
    ∙ h

-- all are
pub numbered-end : (xs : List TreeTerm) (i n : ℕ) (whole : Trees) → length xs ≤ i → append (all_of (take i xs)) (renumbered n (all_of (drop i xs))) ≡ whole → all_of xs ≡ whole
numbered-end xs i n whole past h =
    sym (append-none (all_of xs)) ∙ ap (λ zs. append (all_of zs) no_trees) (sym (take_all i xs past)) ∙ ap (λ zs. append (all_of (take i xs)) (renumbered n (all_of zs))) (sym (drop_of_length-le xs past)) ∙ h

-- what is left is smaller by the one
pub rest-size : (xs : List TreeTerm) (i : ℕ) (d y : TreeTerm) → i < length xs → size (all_of (drop i xs)) ≡ tree_size (get_or xs i d) + size (all_of (drop (i + 1) (slice_set xs i y)))
rest-size xs i d y within =
    let here : drop i xs ≡ get_or xs i d ∷ drop (i + 1) xs = rw (drop-cons xs i d within, add-one) in
    let after : drop (i + 1) (slice_set xs i y) ≡ drop (i + 1) xs = drop-set-lt (i + 1) xs i y (omega arith) in
    rw (after, here) (omega arith)
