use Rattle.std.proofs.Common.{◌≡◌, ℕ, take, ap, sym, ◌∙◌, arith, subst, true}
use Rattle.data_model.specs.Trees.{Content, size}
use Rattle.data_model.specs.Tree.{all_of}
use Rattle.data_model.proofs.Turns.{take-tree, weigh-turn}
use Rattle.pending.specs.Compatible.{is_among}
use Rattle.tracked_drafts.specs.Tests.{AllAmong, Begins}
use Rattle.tracked_drafts.proofs.Marks.{begins-trans, begins-among, all-begins, all-append}
use Rattle.tracked_drafts.proofs.tracked.+mark_all.Goals as goal

pub mark_all-requires : goal.mark_all-requires
mark_all-requires t c =
    let item = c.tree-item.result in
    let weight = weigh-turn (λ _. 1) c.args.trees.now c.loop-tree.tree-index item c.loop-tree-test.true c.tree-item.is in
    let less = c.decreases in
    let bs : size (all_of c.attributes.result.now) ≡ size item.attributes = ap size c.attributes.ensures in
    (omega arith, tt)

pub mark_all-requires-in-loop-tree : goal.mark_all-requires-in-loop-tree
mark_all-requires-in-loop-tree t c =
    let item = c.tree-item.result in
    let weight = weigh-turn (λ _. 1) c.args.trees.now c.loop-tree.tree-index item c.loop-tree-test.true c.tree-item.is in
    let less = c.decreases in
    let cs : size (all_of c.children.result.now) ≡ size item.children = ap size c.children.ensures in
    (omega arith, tt)

pub loop-tree-preserved : goal.loop-tree-preserved
loop-tree-preserved t c =
    let item = c.tree-item.result in
    let ts = c.args.trees.now in
    let at = c.loop-tree.tree-index in
    let k0 = c.loop-tree.touched.keys in
    let k1 = c.mark.new.touched.keys in
    let k2 = c.mark_all.new.touched.keys in
    let k3 = c.mark_all-in-loop-tree.new.touched.keys in
    let g1 : Begins k0 k1 = c.mark.ensures.grows in
    let g2 : Begins k1 k2 = c.mark_all.ensures.grows in
    let g3 : Begins k2 k3 = c.mark_all-in-loop-tree.ensures.grows in
    let to3 : Begins k0 k3 = begins-trans k0 k1 k3 g1 (begins-trans k1 k2 k3 g2 g3) in
    let id : item.content.identity ≡ c.behind-tree.inside.identity = sym (ap (λ (n : Content). n.identity) c.content.ensures) ∙ sym (ap (λ (n : Content). n.identity) c.behind-tree.view_is) in
    let marked : is_among k1 item.content.identity ≡ true = subst (λ (j : ℕ). is_among k1 j ≡ true) (sym id) c.in_ok-mark.ensures.marked in
    let here : is_among k3 item.content.identity ≡ true = begins-among k1 k3 (begins-trans k1 k2 k3 g2 g3) item.content.identity marked in
    let bs : AllAmong k3 item.attributes = all-begins k2 k3 item.attributes g3 (subst (AllAmong k2) c.attributes.ensures c.in_ok-mark_all.ensures.marked) in
    let cs : AllAmong k3 item.children = subst (AllAmong k3) c.children.ensures c.in_ok-mark_all-2.ensures.marked in (
      begins-trans c.args.touched.now.keys k0 k3 c.loop-tree.invariant.0 to3,
      subst (AllAmong k3) (sym (take-tree ts at item c.loop-tree-test.true c.tree-item.is)) (all-append k3 (all_of (take at ts)) _ (all-begins k0 k3 (all_of (take at ts)) to3 c.loop-tree.invariant.1) (here, bs, cs, tt)),
    )
