use Rattle.std.proofs.Common.{◌≡◌, ℕ, ◌-◌, ◌<◌, true, cond, eqb, refl, sym, subst, arith}
use Rattle.data_model.specs.Trees.{count, size}
use Rattle.pending.specs.Compatible.{is_among}
use Rattle.trees.specs.Drafts.{DraftTerm}
use Rattle.update_meaning.specs.Changed.{rooted_at, chosen}
use Rattle.chosen_drafts.specs.Chosen.{others}
use Rattle.chosen_drafts.specs.Inside.{AreTrees}
use Rattle.chosen_drafts.proofs.Chosen.{counts-both, sizes-both, drafted}
use Rattle.chosen_drafts.proofs.Listed.{listed, listed-counts, listed-length}
use Rattle.chosen_drafts.proofs.some_trees.SomeTrees.new.Goals as goal

pub overflow_sub-others : goal.overflow_sub-others
overflow_sub-others c = omega (arith, c.requires.nodes (λ _. 1), listed-length c.args.nodes.keys, sizes-both c.args.roots.items c.args.forest.trees, c.len.ensures, c.len-2.ensures.len)

pub invariant_of-result : goal.invariant_of-result
invariant_of-result c =
    let is = c.args.roots.items in
    let f = c.args.forest in
    let keys = c.args.nodes.keys in
    let same = λ (i : ℕ). c.requires.nodes (λ j. cond (eqb i j) 1 0) in
    let noted : (i : ℕ) → 0 < count i (chosen (rooted_at is) f.trees) → is_among keys i ≡ true = λ i h. listed keys i (omega (arith, h, same i)) in
    let apart : (i : ℕ) → is_among keys i ≡ true → count i (others is f.trees) ≡ 0 = λ i h. omega (arith, listed-counts keys i h, same i, counts-both is i f.trees, c.facts.ensures.distinct i) in
    let d : DraftTerm = record { before = f; after = f.trees; next = c.args.next } in
    let base : AreTrees is keys (size (others is f.trees)) d = drafted is keys d refl noted apart in
    let left : size (others is f.trees) ≡ c.len.result - c.len-2.result = omega (arith, c.requires.nodes (λ _. 1), listed-length keys, sizes-both is f.trees, c.len.ensures, c.len-2.ensures.len) in
    let P : DraftTerm → Type 0 = AreTrees is keys (c.len.result - c.len-2.result) in
    subst P (sym c.new.ensures) (subst (λ (n : ℕ). AreTrees is keys n d) left base)
