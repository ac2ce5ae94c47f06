use Rattle.std.proofs.Common.{◌∙◌, sym}
use Rattle.shelves.specs.Shelf.{shelf_trees}
use Rattle.query_steps.proofs.Ancestors.{up}
use Rattle.query_steps.proofs.ByName.{at-top, at-up}
use Rattle.query_steps.proofs.named.is_at_or_below.Goals as goal

pub loop-root-preserved : goal.loop-root-preserved
loop-root-preserved c =
    let ts = shelf_trees c.args.shelf.now in
    let d = c.facts.ensures.distinct in
    let at = c.loop-root.at in
    let is = sym c.parent.ensures ∙ c.in-Some.is in
    record {
      stands = (up ts d at c.in-Some.parent is).1;
      same = at-up ts d c.args.root at (sym c.ne.ensures ∙ c.loop-root-test.true) c.in-Some.parent is ∙ c.loop-root.invariant.same;
    }

pub loop-root-smaller : goal.loop-root-smaller
loop-root-smaller c = (up (shelf_trees c.args.shelf.now) c.facts.ensures.distinct c.loop-root.at c.in-Some.parent (sym c.parent.ensures ∙ c.in-Some.is)).2

pub returns-in_default : goal.returns-in_default
returns-in_default c =
    at-top (shelf_trees c.args.shelf.now) c.facts.ensures.distinct c.args.root c.loop-root.at (sym c.ne.ensures ∙ c.loop-root-test.true) (sym c.parent.ensures ∙ c.in_default.is)
    ∙ c.loop-root.invariant.same
