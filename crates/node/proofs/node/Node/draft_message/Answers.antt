use Rattle.std.proofs.Common.{◌≡◌, ◌∙◌, ◌≤◌, ◌∷◌, [], List, IfSome, ap, length, subst, sym, ℕ}
use Rattle.ballots.specs.Ballot.{most_members}
use Rattle.ballots.specs.Messages.{body_of, packet}
use Rattle.ballots.specs.declared.message.Message.{Message}
use Rattle.ballots.specs.declared.message.Message.TheVariants as message
use Rattle.ballots.specs.declared.request.RequestId.{RequestId}
use Rattle.ballots.specs.declared.value.Value.{Value}
use Rattle.applications.specs.Limits.{applied_at}
use Rattle.member.specs.Drafts.{Says, send_to}
use Rattle.member.specs.Steps.{Hears}
use Rattle.member.specs.declared.draft.Change.TheVariants.{Nothing}
use Rattle.member.specs.declared.outcome.Target.TheVariants as target
use Rattle.paxos.specs.WellFormed.{IsSender}
use Rattle.node.specs.Nodes.{IsPlanned, Node}
use Rattle.node.proofs.Planning.{reply_planned}
use Rattle.node.proofs.node.Node.draft_message.Goals as goal

pub returns-in_ok-to_client-in-Some-clause-planned : goal.returns-in_ok-to_client-in-Some-clause-planned
returns-in_ok-to_client-in-Some-clause-planned g c =
    let x = c.args.self.now in
    let q = c.in-Submit.request in
    let d = c.in_ok-to_client-in-Some.field-0 in
    let app = g.A.Application.meaning x.setup.names in
    let i = subst (λ (x : Node g.row.R.Denot g.row.A.Denot). (x.member.members ≡ x.setup.members) × (x.member.number ≡ x.setup.member) × (x.setup.member ≤ x.setup.members)) c.self.view_is (c.self.invariant.0, c.self.invariant.1, c.self.invariant.2.1) in
    subst (λ (m : Message). IsPlanned {R = g.row.R.Denot} {A = g.row.A.Denot} g.A.Application.has_applied app (Hears (packet c.args.sender (body_of m) x.setup.member)) x d) (sym c.in-Submit.is)
    (reply_planned {R = g.row.R.Denot} {A = g.row.A.Denot} g.A.Application.has_applied app x i.0 i.1 q c.args.sender c.in-Some.reply d
    (subst (λ (m : Message). IsSender most_members c.args.sender (body_of m)) c.in-Submit.is c.requires.sender) i.2
    (λ values h. sym c.in-Some.is ∙ subst (λ (x : Node g.row.R.Denot g.row.A.Denot). (names : List (List ℕ)) (values : List Value) → g.A.Application.has_applied names values x.application → c.reply_of.result ≡ (g.A.Application.meaning names).reply values c.id-id.result.client c.id-id.result.number) c.self.view_is c.reply_of.ensures x.setup.names values h
    ∙ ap (λ (id : RequestId). app.reply values id.client id.number) c.id-id.ensures)
    (λ values h. subst (λ o. IfSome o (λ reply. (1 ≤ applied_at reply) × (applied_at reply ≤ length values)))
    (sym (subst (λ (x : Node g.row.R.Denot g.row.A.Denot). (names : List (List ℕ)) (values : List Value) → g.A.Application.has_applied names values x.application → c.reply_of.result ≡ (g.A.Application.meaning names).reply values c.id-id.result.client c.id-id.result.number) c.self.view_is c.reply_of.ensures x.setup.names values h) ∙ c.in-Some.is)
    (g.met.A.Application.ranges x.setup.names values c.id-id.result.client c.id-id.result.number))
    (subst (λ (id : RequestId). Says d (send_to target.Client (message.Reply id.client id.number c.in-Some.reply) ∷ []) Nothing) c.id-id.ensures c.in_ok-to_client-in-Some.ensures))
