use Rattle.std.proofs.Common.{◌≡◌, ◌∙◌, ◌++◌, ◌∷◌, [], List, ℕ, ap, sym, arith, take, take_all}
use Rattle.std.proofs.lemmas.List.{append_assoc}
use Rattle.data_model.specs.Trees.{Content, roots}
use Rattle.data_model.specs.Tree.{all_of, trees_of_tree}
use Rattle.data_model.proofs.Turns.{take-tree}
use Rattle.data_model.proofs.Weights.{roots-append}
use Rattle.node_plans.proofs.splice.add_roots.Goals as goal

pub loop-tree-preserved : goal.loop-tree-preserved
loop-tree-preserved c =
    let ts = c.args.trees.now in
    let at = c.loop-tree.tree-index in
    let t = c.tree-item.result in
    let more = ap roots (take-tree ts at t c.loop-tree-test.true c.tree-item.is) ∙ roots-append (all_of (take at ts)) (trees_of_tree t) in
    let id : c.behind-tree.inside.identity ≡ t.content.identity = ap (λ (n : Content). n.identity) (c.behind-tree.view_is ∙ c.content.ensures) in
    let old = c.args.nodes.now.items in
    let before = c.loop-tree.invariant in
    let one = c.in_ok-push.ensures.items in
    let two : c.loop-tree.nodes.items ++ c.behind-tree.inside.identity ∷ [] ≡ (old ++ roots (all_of (take at ts))) ++ t.content.identity ∷ [] = λ i. before i ++ id i ∷ [] in
    one ∙ two ∙ append_assoc old (roots (all_of (take at ts))) (t.content.identity ∷ []) ∙ ap (λ (xs : List ℕ). old ++ xs) (sym more)

pub returns : goal.returns
returns c = let whole = take_all c.loop-tree.tree-index c.args.trees.now (let done = c.loop-tree-test.false in omega arith) in rw whole at c.loop-tree.invariant
