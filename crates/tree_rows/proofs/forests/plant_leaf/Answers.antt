use Rattle.std.proofs.Common.{◌≡◌, ℕ, ◌<◌, ◌≤◌, ◌^◌, ap, sym, ◌∙◌, arith, subst}
use Rattle.data_model.specs.Trees.{Trees, append, leaf, count}
use Rattle.data_model.specs.Tree.{trees_of_tree}
use Rattle.trees.proofs.CallerLemmas.{distinct-planted}
use Rattle.shelves.proofs.Shelves.{count-leaf, one-leaf}
use Rattle.tree_rows.proofs.forests.plant_leaf.Goals as goal

pub plant-requires : goal.plant-requires
plant-requires c =
    let node = c.args.node in
    let fresh = c.requires.fresh in
    let room = c.requires.room in
    let is : trees_of_tree c.new-tree.result ≡ leaf node = ap trees_of_tree c.new-tree.ensures ∙ rw (c.new.ensures.items, c.new-2.ensures.items) in
    let P : Trees → Type 0 = λ us. ((i : ℕ) → count i (append c.args.forest.now.trees us) ≤ 1) × ((i : ℕ) → 0 < count i us → i < 2 ^ 62) in
    let both : P (leaf node) = (
      distinct-planted c.args.forest.now (leaf node) c.facts.ensures (λ i. one-leaf i node) (λ i there. (let same = count-leaf i node there in omega arith)),
      λ i there. (let same = count-leaf i node there in omega arith),
    ) in
    let z = subst P (sym is) both in
    record { distinct = z.0; below = z.1 }
