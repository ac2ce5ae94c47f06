use Rattle.std.proofs.Common.{◌∙◌}
use Rattle.node_table.specs.Plans.{over}
use Rattle.node_plans.proofs.Plans.{settle-step, settle-end}
use Rattle.node_plans.proofs.Added.{over-added}
use Rattle.node_plans.proofs.changes.add_rows.Goals as goal

pub loop-id-preserved : goal.loop-id-preserved
loop-id-preserved c = λ r i.
    let some = c.in-Some.ensures.some in
    let one = settle-step c.loop-id.rows c.pop.new.self (over c.loop-id.changes.items r) c.in-Some.id c.in-Some.row some.0 some.1 i in
    rw (c.in_ok-push.ensures.items, over-added, c.new.ensures) (one ∙ c.loop-id.invariant r i)

pub returns : goal.returns
returns c = λ r i. settle-end c.loop-id.rows i _ (c.in_default.ensures.none i) ∙ c.loop-id.invariant r i
