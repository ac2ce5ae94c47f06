use Rattle.std.proofs.Common.{◌≡◌, ℕ, ◌+◌, ◌<◌, ◌≤◌, ◌∙◌, ap, sym, arith, subst}
use Rattle.data_model.specs.Trees.{Content, no_trees, count}
use Rattle.data_model.specs.Tree.{TreeTerm, trees_of_tree}
use Rattle.shelves.specs.Shelf.{ShelfTerm}
use Rattle.shelves.proofs.Shelves.{count-leaf, one-leaf}
use Rattle.tree_rows.proofs.own.plant_leaf.Goals as goal

pub plant-requires : goal.plant-requires
plant-requires c =
    let node = c.args.node in
    let s = c.args.shelf.now in
    let fresh = c.requires.fresh in
    let later = c.facts.ensures.after.later in
    let next : c.new.result ≡ node.identity + 1 = c.new.ensures ∙ ap (λ n. n + 1) (c.number.ensures ∙ ap (λ (d : Content). d.identity) c.node.view_is) in
    let whole : TreeTerm = record { content = node; attributes = no_trees; children = no_trees } in
    let is : c.new-tree.result ≡ whole = c.new-tree.ensures ∙ rw (c.new-2.ensures.items, c.new-3.ensures.items) in
    let P : TreeTerm → ShelfTerm → Type 0 = λ t r. ((i : ℕ) → count i (trees_of_tree t) ≤ 1) × ((i : ℕ) → 0 < count i (trees_of_tree t) → t.content.identity ≤ i) × ((i : ℕ) → 0 < count i (trees_of_tree t) → i < r.own.next) × ((i : ℕ) → 0 < count i r.own.trees → i < t.content.identity) × (r.lent.next ≤ t.content.identity) in
    let all : P whole (record s { own = record s.own { next = c.new.result } }) = (
      λ i. one-leaf i node,
      λ i there. (let same = count-leaf i node there in omega arith),
      λ i there. (let same = count-leaf i node there in omega arith),
      λ i there. (let below = c.facts.ensures.own.below i there in omega arith),
      omega arith,
    ) in
    let z = subst (P c.new-tree.result) (sym c.raise_next.ensures) (subst (λ t. P t (record s { own = record s.own { next = c.new.result } })) (sym is) all) in
    record { distinct = z.0; first = z.1; below = z.2; after = z.3; lent = z.4 }
