use Rattle.std.proofs.Common.{◌∙◌, None}
use Rattle.node_table.proofs.Plans.{rows-changed}
use Rattle.node_plans.specs.declared.plan.Plan.{Plan}
use Rattle.node_plans.proofs.Writes.{hidden}
use Rattle.node_plans.proofs.splice.hide.Goals as goal

pub returns-in-Ok-clause-here : goal.returns-in-Ok-clause-here
returns-in-Ok-clause-here c =
    let q : Plan = record { rows = c.remove.new.self; gone = c.insert.new.self } in
    let h = hidden c.args.plan.now q c.number.result (rows-changed c.args.plan.now.rows c.remove.new.self c.number.result None c.remove.ensures.removed) (rw (c.number-2.ensures, ← c.number.ensures) at c.in-Ok.ensures.updates.0) in
    λ r. rw c.number.ensures at ((h r).0)

pub returns-in-Ok-clause-others : goal.returns-in-Ok-clause-others
returns-in-Ok-clause-others c =
    let q : Plan = record { rows = c.remove.new.self; gone = c.insert.new.self } in
    let h = hidden c.args.plan.now q c.number.result (rows-changed c.args.plan.now.rows c.remove.new.self c.number.result None c.remove.ensures.removed) (rw (c.number-2.ensures, ← c.number.ensures) at c.in-Ok.ensures.updates.0) in
    λ r i ne. (h r).1 i (λ same. ne (same ∙ c.number.ensures))
