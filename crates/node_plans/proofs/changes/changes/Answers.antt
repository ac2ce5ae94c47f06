use Rattle.std.proofs.Common.{◌≡◌, ◌∙◌, ap}
use Rattle.std.specs.Option.{option_or}
use Rattle.node_table.specs.Rows.{row_of}
use Rattle.node_table.specs.Plans.{over}
use Rattle.node_plans.specs.Planned.{planned}
use Rattle.node_plans.proofs.changes.changes.Goals as goal

pub returns : goal.returns
unfolding planned
returns c = λ r t i.
    let gone = rw c.new-changes.ensures.items at c.in_ok-add_gone.ensures r i in
    let same : over c.add_rows.new.changes.items r i ≡ planned c.args.plan r i = c.in_ok-add_rows.ensures r i ∙ ap (option_or (row_of c.args.plan.rows i)) gone in same t
