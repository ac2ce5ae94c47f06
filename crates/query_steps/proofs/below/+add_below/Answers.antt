use Rattle.std.proofs.Common.{◌≡◌, ◌∙◌, ◌++◌, ◌+◌, ◌-◌, ℕ, Bool, List, true, false, ap, arith, filter}
use Rattle.data_model.specs.Trees.{find, attributes_of, children_of}
use Rattle.shelves.specs.Shelf.{shelf_trees}
use Rattle.query_meaning.specs.Paths.{passes_at}
use Rattle.query_steps.specs.Below.{counted_below, levels_below}
use Rattle.query_steps.proofs.Turns.{below-turn, count-turn, none-counted, none-found}
use Rattle.query_steps.proofs.below.+add_below.Goals as goal
use Rattle.query_steps.proofs.below.+add_below.Goals.{then-not-is_empty+in_ok-looked, else-not-is_empty, then-not-is_empty-2+in_ok-looked-2, else-not-is_empty-2}

pub loop-id-preserved : goal.loop-id-preserved
loop-id-preserved t c =
    let ts = shelf_trees c.args.shelf.now in
    let n = c.args.levels - 1 in
    let i = c.id-item.result in
    let test : ℕ → Bool = λ j. passes_at c.args.axis c.args.test.now (find j ts) in
    let below : ℕ → List ℕ = λ j. levels_below n ts false (attributes_of j ts) ++ levels_below n ts true (children_of j ts) in
    let counted : ℕ → ℕ = λ j. counted_below n ts (attributes_of j ts) + counted_below n ts (children_of j ts) in
    let is = c.loop-id.invariant.2 in
    let xs = c.in_ok-lists.lists.attributes.now in
    let ys = c.in_ok-lists.lists.children.now in
    let first : (c.if-not-is_empty.nodes.items ≡ c.add_node.new.nodes.items ++ filter test (levels_below n ts false xs)) × (c.if-not-is_empty.looked ≡ c.loop-id.looked + counted_below n ts xs) =
    elim c.if-not-is_empty.branch [
      | then-not-is_empty+in_ok-looked w ↦ (ap (λ v. v.items) w.nodes-is ∙ w.in_ok-looked.ensures.nodes, w.looked-is ∙ ap (λ k. c.loop-id.looked + k) w.in_ok-looked.ensures.looked)
      | else-not-is_empty w ↦
          (let none = none-counted n ts xs c.is_empty.result c.is_empty.ensures w.if-not-is_empty.false in
          let same = w.looked-is in
          (none-found test n ts false xs _ _ c.is_empty.result c.is_empty.ensures w.if-not-is_empty.false (ap (λ v. v.items) w.nodes-is), omega (arith, none, same)))
    ] in
    let second : (c.if-not-is_empty-2.nodes.items ≡ c.if-not-is_empty.nodes.items ++ filter test (levels_below n ts true ys)) × (c.if-not-is_empty-2.looked ≡ c.if-not-is_empty.looked + counted_below n ts ys) =
    elim c.if-not-is_empty-2.branch [
      | then-not-is_empty-2+in_ok-looked-2 w ↦ (ap (λ v. v.items) w.nodes-is ∙ w.in_ok-looked-2.ensures.nodes, w.looked-is ∙ ap (λ k. c.if-not-is_empty.looked + k) w.in_ok-looked-2.ensures.looked)
      | else-not-is_empty-2 w ↦
          (let none = none-counted n ts ys c.is_empty-in-loop-id.result c.is_empty-in-loop-id.ensures w.if-not-is_empty-2.false in
          let same = w.looked-is in
          (none-found test n ts true ys _ _ c.is_empty-in-loop-id.result c.is_empty-in-loop-id.ensures w.if-not-is_empty-2.false (ap (λ v. v.items) w.nodes-is), omega (arith, none, same)))
    ] in
    let attributes : levels_below n ts false xs ≡ levels_below n ts false (attributes_of i ts) = ap (levels_below n ts false) (c.in_ok-lists.ensures.attributes ∙ ap (attributes_of i) is) in
    let children : levels_below n ts true ys ≡ levels_below n ts true (children_of i ts) = ap (levels_below n ts true) (c.in_ok-lists.ensures.children ∙ ap (children_of i) is) in
    let few : counted_below n ts xs ≡ counted_below n ts (attributes_of i ts) = ap (counted_below n ts) (c.in_ok-lists.ensures.attributes ∙ ap (attributes_of i) is) in
    let more : counted_below n ts ys ≡ counted_below n ts (children_of i ts) = ap (counted_below n ts) (c.in_ok-lists.ensures.children ∙ ap (children_of i) is) in
    let turn = count-turn counted c.args.ids.now c.loop-id.id-index i c.loop-id-test.true c.id-item.is in
    let was = c.loop-id.invariant.1 in (
      below-turn test c.args.is_listed below c.args.ids.now c.loop-id.id-index i (levels_below n ts false xs) (levels_below n ts true ys) _ _ _ _ _ c.loop-id-test.true c.id-item.is
          (ap (λ zs. zs ++ levels_below n ts true ys) attributes ∙ ap (λ zs. levels_below n ts false (attributes_of i ts) ++ zs) children)
          c.loop-id.invariant.0 (rw is at c.in_ok-lists.ensures.nodes) first.0 second.0,
      omega (arith, first.1, second.1, few, more, turn, was),
      c.add_node.ensures.same ∙ is,
    )
