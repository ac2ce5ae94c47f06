use Rattle.std.proofs.Common.{◌≡◌, ℕ, ◌<◌, None, take, cond, eqb, ap, sym, ◌∙◌, arith, subst}
use Rattle.data_model.specs.Trees.{Trees, Content, count, size}
use Rattle.data_model.specs.Tree.{all_of}
use Rattle.node_table.specs.Rows.{row_of}
use Rattle.node_table.proofs.Rows.{row-unset}
use Rattle.node_table.proofs.Plants.{other-turn, removed-turn}
use Rattle.data_model.proofs.Turns.{take-tree, weigh-turn}
use Rattle.node_table.proofs.plant.+remove_all.Goals as goal

pub remove_all-requires : goal.remove_all-requires
remove_all-requires t c =
    let item = c.tree-item.result in
    let ts = c.args.trees.now in
    let at = c.loop-tree.tree-index in
    let weight = weigh-turn (λ _. 1) ts at item c.loop-tree-test.true c.tree-item.is in
    let less = c.decreases in
    let bs : size (all_of c.attributes.result.now) ≡ size item.attributes = ap size c.attributes.ensures in
    (omega arith, tt)

pub remove_all-requires-in-loop-tree : goal.remove_all-requires-in-loop-tree
remove_all-requires-in-loop-tree t c =
    let item = c.tree-item.result in
    let ts = c.args.trees.now in
    let at = c.loop-tree.tree-index in
    let weight = weigh-turn (λ _. 1) ts at item c.loop-tree-test.true c.tree-item.is in
    let less = c.decreases in
    let cs : size (all_of c.children.result.now) ≡ size item.children = ap size c.children.ensures in
    (omega arith, tt)

pub loop-tree-preserved : goal.loop-tree-preserved
loop-tree-preserved t c =
    let item = c.tree-item.result in
    let ts = c.args.trees.now in
    let at = c.loop-tree.tree-index in
    let view = c.content.view_is ∙ c.content-content.ensures in
    let id : c.number.result ≡ item.content.identity = c.number.ensures ∙ ap (λ (n : Content). n.identity) view in
    let u = rw id at (row-unset c.loop-tree.rows c.remove.new.self c.number.result c.remove.ensures.removed) in
    let g0 = row_of c.loop-tree.rows in
    let g1 = row_of c.remove.new.self in
    let g2 = row_of c.remove_all.new.rows in
    let g3 = row_of c.remove_all-in-loop-tree.new.rows in
    let removed2 : (i : ℕ) → 0 < count i item.attributes → g2 i ≡ None = rw c.attributes.ensures at c.remove_all.ensures.removed in
    let same2 : (i : ℕ) → count i item.attributes ≡ 0 → g2 i ≡ g1 i = rw c.attributes.ensures at c.remove_all.ensures.same in
    let removed3 : (i : ℕ) → 0 < count i item.children → g3 i ≡ None = rw c.children.ensures at c.remove_all-in-loop-tree.ensures.removed in
    let same3 : (i : ℕ) → count i item.children ≡ 0 → g3 i ≡ g2 i = rw c.children.ensures at c.remove_all-in-loop-tree.ensures.same in
    let P : Trees → Type 0 = λ us. (i : ℕ) → 0 < count i us → g3 i ≡ None in
    record {
      removed = subst P (sym (take-tree ts at item c.loop-tree-test.true c.tree-item.is)) (removed-turn g0 g1 g2 g3 item.content item.attributes item.children u.1 same2 same3 (all_of (take at ts)) c.loop-tree.invariant.removed u.0 removed2 removed3);
      same = λ i none. (let w = weigh-turn (λ j. cond (eqb i j) 1 0) ts at item c.loop-tree-test.true c.tree-item.is in
          other-turn g0 g1 g2 g3 item.content item.attributes item.children u.1 same2 same3 i (omega arith) ∙ c.loop-tree.invariant.same i none);
    }
