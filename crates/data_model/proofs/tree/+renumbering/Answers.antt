use Rattle.std.proofs.Common.{arith, length, ◌<◌, ◌≤◌}
use Rattle.data_model.proofs.Numbering.{numbered-step, numbered-end, rest-size}
use Rattle.data_model.proofs.tree.+renumbering.Goals as goal

pub renumber-loop-tree-preserved : goal.renumber-loop-tree-preserved
renumber-loop-tree-preserved t c =
    let xs = c.loop-tree.trees in
    let i = c.loop-tree.tree-index in
    let d = c.tree-item.result in
    let y = c.renumber-next.new.self in
    let within : i < length xs = omega (arith, c.loop-tree-test.true, c.loop-tree.auto.trees) in
    let sizes = rest-size xs i d y within in
    record {
      numbered = numbered-step xs i c.loop-tree.next c.renumber-next.result d y _ within c.renumber-next.ensures.numbered c.renumber-next.ensures.next c.loop-tree.invariant.numbered;
      next = omega (arith, sizes, c.renumber-next.ensures.next, c.loop-tree.invariant.next);
      rising = omega (arith, c.renumber-next.ensures.next, c.loop-tree.invariant.rising);
    }

pub renumber-returns-clause-numbered : goal.renumber-returns-clause-numbered
renumber-returns-clause-numbered t c =
    let past : length c.loop-tree.trees ≤ c.loop-tree.tree-index = omega (arith, c.loop-tree-test.false, c.loop-tree.auto.trees) in
    numbered-end c.loop-tree.trees c.loop-tree.tree-index c.loop-tree.next _ past c.loop-tree.invariant.numbered
