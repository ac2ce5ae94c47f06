use Rattle.std.proofs.Common.{◌≡◌, ◌∙◌, ◌<◌, ◌≤◌, ◌∷◌, [], List, length, subst, ap₂, ℕ}
use Rattle.ballots.specs.declared.message.Message.TheVariants as message
use Rattle.ballots.specs.Replies.{answered}
use Rattle.ballots.specs.declared.request.RequestId.{RequestId}
use Rattle.ballots.specs.declared.value.Value.{Value}
use Rattle.member.specs.Drafts.{Says, send_to}
use Rattle.member.specs.declared.draft.Change.TheVariants.{Nothing}
use Rattle.member.specs.declared.outcome.Target.TheVariants as target
use Rattle.node.specs.Nodes.{Node}
use Rattle.node.proofs.Planning.{answer_planned, behind_planned}
use Rattle.node.proofs.node.Node.draft_question.Goals as goal

pub returns-then-applied-floor-clause-planned : goal.returns-then-applied-floor-clause-planned
returns-then-applied-floor-clause-planned g c =
    let x = c.args.self.now in
    let i = subst (λ (x : Node g.row.R.Denot g.row.A.Denot). (x.member.members ≡ x.setup.members) × (x.member.number ≡ x.setup.member) × (x.setup.member ≤ x.setup.members)) c.self.view_is (c.self.invariant.0, c.self.invariant.1, c.self.invariant.2.1) in
    behind_planned {R = g.row.R.Denot} {A = g.row.A.Denot} g.A.Application.has_applied (g.A.Application.meaning x.setup.names) x i.0 i.1 c.args.ask.now c.applied-applied.result c.in_ok-to_client.field-0
    (subst (λ f. c.applied-applied.result < f) c.floor.ensures.floor c.if-applied-floor.true) i.2
    (subst (λ (x : Node g.row.R.Denot g.row.A.Denot). (names : List (List ℕ)) (values : List Value) → g.A.Application.has_applied names values x.application → c.applied-applied.result ≡ length values) c.self.view_is c.applied-applied.ensures.means)
    (subst (λ (id : RequestId). Says c.in_ok-to_client.field-0 (send_to target.Client (message.Behind id.client id.number c.applied-applied.result) ∷ []) Nothing) c.id-id.ensures c.in_ok-to_client.ensures)

pub returns-clause-planned : goal.returns-clause-planned
returns-clause-planned g c =
    let x = c.args.self.now in
    let i = subst (λ (x : Node g.row.R.Denot g.row.A.Denot). (x.member.members ≡ x.setup.members) × (x.member.number ≡ x.setup.member) × (x.setup.member ≤ x.setup.members)) c.self.view_is (c.self.invariant.0, c.self.invariant.1, c.self.invariant.2.1) in
    answer_planned {R = g.row.R.Denot} {A = g.row.A.Denot} g.A.Application.has_applied (g.A.Application.meaning x.setup.names) x i.0 i.1 c.args.ask.now c.applied-applied.result c.in_ok-answer.answer c.in_ok-to_client-2.field-0
    (subst (λ f. f ≤ c.applied-applied.result) c.floor.ensures.floor c.if-applied-floor.false) i.2
    (subst (λ (x : Node g.row.R.Denot g.row.A.Denot). (names : List (List ℕ)) (values : List Value) → g.A.Application.has_applied names values x.application → c.applied-applied.result ≡ length values) c.self.view_is c.applied-applied.ensures.means)
    c.in_ok-answer.ensures.most
    (λ values h. subst (λ (x : Node g.row.R.Denot g.row.A.Denot). (names : List (List ℕ)) (values : List Value) → g.A.Application.has_applied names values x.application → answered c.in_ok-answer.answer ≡ (g.A.Application.meaning names).answer values c.level.result c.text.result.now) c.self.view_is c.in_ok-answer.ensures.means x.setup.names values h
    ∙ ap₂ (λ l t. (g.A.Application.meaning x.setup.names).answer values l t) c.level.ensures.level c.text.ensures.text)
    (subst (λ (id : RequestId). Says c.in_ok-to_client-2.field-0 (send_to target.Client (message.Answer id.client id.number c.applied-applied.result c.in_ok-answer.answer) ∷ []) Nothing) c.id-id.ensures c.in_ok-to_client-2.ensures)
