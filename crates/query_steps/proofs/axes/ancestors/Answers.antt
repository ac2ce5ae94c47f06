use Rattle.std.proofs.Common.{◌∙◌, ◌++◌, ℕ, Bool, filter, length, reverse, sym, ap, arith}
use Rattle.data_model.specs.Trees.{find}
use Rattle.data_model.specs.declared.axis.Axis.TheVariants.{Ancestor}
use Rattle.data_model.proofs.Paths.{depth-size}
use Rattle.shelves.specs.Shelf.{shelf_trees}
use Rattle.query_meaning.specs.Paths.{passes_at}
use Rattle.query_steps.proofs.Ancestors.{up, ancestors-up, ancestors-more, ancestors-none}
use Rattle.query_steps.proofs.Turns.{above-turn}
use Rattle.query_steps.proofs.axes.ancestors.Goals as goal

pub overflow_add-looked_at : goal.overflow_add-looked_at
overflow_add-looked_at c =
    let ts = shelf_trees c.args.shelf.now in
    let few = c.loop-parent.invariant.few in
    let step = up ts c.facts.ensures.distinct c.loop-parent.at c.in-Some.parent (sym c.parent.ensures ∙ c.in-Some.is) in
    let deep = depth-size c.args.node ts in
    let all = c.len-all.ensures in
    omega (arith, few, step.2, deep, all)

pub loop-parent-preserved : goal.loop-parent-preserved
loop-parent-preserved c =
    let ts = shelf_trees c.args.shelf.now in
    let i = c.loop-parent.invariant in
    let d = c.facts.ensures.distinct in
    let is = sym c.parent.ensures ∙ c.in-Some.is in
    let test : ℕ → Bool = λ j. passes_at Ancestor c.args.test.now (find j ts) in
    let step = up ts d c.loop-parent.at c.in-Some.parent is in
    let more = ancestors-more ts d c.loop-parent.at c.in-Some.parent is in
    record {
      stands = step.1;
      found = above-turn test c.in-Some.parent _ _ _ _ _ (ancestors-up ts d c.loop-parent.at c.in-Some.parent is) i.found c.in_ok-add_passing.ensures;
      few = omega (arith, i.few, step.2);
      looked = omega (arith, i.looked, more);
    }

pub loop-parent-smaller : goal.loop-parent-smaller
loop-parent-smaller c = (up (shelf_trees c.args.shelf.now) c.facts.ensures.distinct c.loop-parent.at c.in-Some.parent (sym c.parent.ensures ∙ c.in-Some.is)).2

pub returns : goal.returns
returns c =
    let ts = shelf_trees c.args.shelf.now in
    let test : ℕ → Bool = λ j. passes_at Ancestor c.args.test.now (find j ts) in
    let above = ancestors-none ts c.facts.ensures.distinct c.loop-parent.at (sym c.parent.ensures ∙ c.in_default.is) in
    let none = ap length above in
    record {
      nodes = c.reverse.ensures.items ∙ ap (λ xs. filter test xs ++ reverse c.loop-parent.nodes.items) (sym above) ∙ c.loop-parent.invariant.found;
      looked = omega (arith, c.loop-parent.invariant.looked, none);
    }
