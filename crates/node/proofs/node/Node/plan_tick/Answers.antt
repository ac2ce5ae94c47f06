use Rattle.std.proofs.Common.{◌∙◌}
use Rattle.member.specs.Steps.{ticked}
use Rattle.node.specs.Nodes.{Node}
use Rattle.node.proofs.Planning.{member_planned, tick_unanswered}
use Rattle.node.proofs.node.Node.plan_tick.Goals as goal

pub returns-clause-planned : goal.returns-clause-planned
returns-clause-planned g c =
    let i = c.self.inside in
    let app = g.A.Application.meaning i.setup.names in
    let y : Node g.row.R.Denot g.row.A.Denot = record { setup = i.setup; member = c.draft.new.self; application = i.application } in
    member_planned {R = g.row.R.Denot} {A = g.row.A.Denot} g.A.Application.has_applied app y (c.draft.ensures.place.0 ∙ c.self.invariant.0) (c.draft.ensures.place.1 ∙ c.self.invariant.1)
    (ticked c.args.tick) c.in_ok-draft.field-0 c.in_ok-draft.ensures.drafted c.in_ok-draft.ensures.ready c.in_ok-draft.ensures.short (λ u r. tick_unanswered app i.setup.members u c.args.tick)
