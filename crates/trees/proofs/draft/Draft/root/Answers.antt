use Rattle.std.proofs.Common.{◌∙◌, sym}
use Rattle.data_model.proofs.Climbs.{climb-end, climb-up}
use Rattle.trees.proofs.draft.Draft.root.Goals as goal

pub loop-parent-preserved : goal.loop-parent-preserved
loop-parent-preserved c =
    let i = c.loop-parent.invariant in
    let up = climb-up c.loop-parent.at c.in-Some.parent c.args.self.now.after c.facts.ensures.distinct i.0 (sym c.parent.ensures ∙ c.in-Some.is) in
    (up.0, up.1 ∙ i.1)

pub loop-parent-smaller : goal.loop-parent-smaller
loop-parent-smaller c = (climb-up c.loop-parent.at c.in-Some.parent c.args.self.now.after c.facts.ensures.distinct c.loop-parent.invariant.0 (sym c.parent.ensures ∙ c.in-Some.is)).2

pub returns : goal.returns
returns c =
    let i = c.loop-parent.invariant in
    sym (climb-end c.loop-parent.at c.args.self.now.after c.facts.ensures.distinct i.0 (sym c.parent.ensures ∙ c.in_default.is)) ∙ i.1
