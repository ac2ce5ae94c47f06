use Rattle.std.proofs.Common.{◌∙◌, subst, sym}
use Rattle.ballots.specs.Messages.{body_of, packet}
use Rattle.member.specs.Drafts.{IsDrafted as IsDraftedOf}
use Rattle.member.specs.Steps.{Hears, IsNew}
use Rattle.paxos.specs.Step.{Running, values_of}
use Rattle.node.specs.Nodes.{Node}
use Rattle.node.proofs.Planning.{member_planned}
use Rattle.node.proofs.node.Node.draft_heard.Goals as goal

pub returns-clause-planned : goal.returns-clause-planned
returns-clause-planned g c =
    let i = c.self.inside in
    let app = g.A.Application.meaning i.setup.names in
    let body = body_of c.args.message.now in
    let y : Node g.row.R.Denot g.row.A.Denot = record { setup = i.setup; member = c.draft.new.self; application = i.application } in
    let new : (u : Running) → g.A.Application.has_applied i.setup.names (values_of i.setup.members u) i.application → IsNew app (values_of i.setup.members u) body =
    subst (λ (x : Node g.row.R.Denot g.row.A.Denot). (u : Running) → g.A.Application.has_applied x.setup.names (values_of x.setup.members u) x.application → IsNew (g.A.Application.meaning x.setup.names) (values_of x.setup.members u) body) (sym c.self.view_is) c.requires.new in
    member_planned {R = g.row.R.Denot} {A = g.row.A.Denot} g.A.Application.has_applied app y (c.draft.ensures.place.0 ∙ c.self.invariant.0) (c.draft.ensures.place.1 ∙ c.self.invariant.1)
    (Hears (packet c.args.sender body i.setup.member)) c.in_ok-draft.field-0
    (subst (λ m. IsDraftedOf {R = g.row.R.Denot} (Hears (packet c.args.sender body m)) c.draft.new.self c.in_ok-draft.field-0) c.self.invariant.1 c.in_ok-draft.ensures.drafted)
    c.in_ok-draft.ensures.ready c.in_ok-draft.ensures.short (λ u r. new u r)
