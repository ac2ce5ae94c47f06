use Rattle.std.proofs.Common.{sym, ◌∙◌}
use Rattle.data_model.proofs.Climbs.{climb-up, climb-end}
use Rattle.query_calls.proofs.nodes.root_of.Goals as goal

pub loop-parent-smaller : goal.loop-parent-smaller
loop-parent-smaller c = (climb-up _ _ _ c.facts.ensures.distinct c.loop-parent.invariant.1 (sym c.in-Some.ensures)).2

pub loop-parent-preserved : goal.loop-parent-preserved
loop-parent-preserved c =
    let up = climb-up _ _ _ c.facts.ensures.distinct c.loop-parent.invariant.1 (sym c.in-Some.ensures) in
    (up.1 ∙ c.loop-parent.invariant.0, up.0)

pub returns-clause-root : goal.returns-clause-root
returns-clause-root c = sym (climb-end _ _ c.facts.ensures.distinct c.loop-parent.invariant.1 (sym c.parent.ensures ∙ c.in_default.is)) ∙ c.loop-parent.invariant.0
