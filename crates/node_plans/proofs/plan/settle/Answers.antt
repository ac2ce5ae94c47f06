use Rattle.std.proofs.Common.{◌≡◌, ◌∙◌, ap, arith}
use Rattle.std.specs.Option.{option_or}
use Rattle.node_table.specs.Rows.{row_of}
use Rattle.node_plans.specs.Planned.{planned}
use Rattle.node_table.proofs.Rows.{rows-same}
use Rattle.node_plans.proofs.Plans.{settle-step, settle-end}
use Rattle.node_plans.proofs.plan.settle.Goals as goal

pub loop-id-init : goal.loop-id-init
unfolding planned
loop-id-init c = record {
  put = λ i. ap (option_or (row_of c.args.plan.rows i)) (c.remove_rows.ensures.removed i);
  room = omega (arith, c.requires, c.remove_rows.ensures.spare);
}

pub loop-id-preserved : goal.loop-id-preserved
loop-id-preserved c =
    let some = c.in-Some.ensures.some in
    record {
      put = λ i. rw c.put.ensures.put (settle-step c.loop-id.planned c.pop.new.self (row_of c.loop-id.rows) c.in-Some.id c.in-Some.row some.0 some.1 i ∙ c.loop-id.invariant.put i);
      room = omega (arith, c.in-Some.ensures.fewer, c.loop-id.invariant.room, c.put.ensures.spare);
    }

pub returns : goal.returns
returns c = λ t i. (let e : row_of c.shrink.new.self i ≡ planned c.args.plan (row_of c.args.rows.now) i = rows-same c.loop-id.rows c.shrink.new.self c.shrink.ensures i ∙ settle-end c.loop-id.planned i _ (c.in_default.ensures.none i) ∙ c.loop-id.invariant.put i in e t)
