use Rattle.std.proofs.Common.{◌≡◌, ◌∙◌, ap, ap₂, false, None, refl, subst, sym, true, [], ◌∷◌, Err, Some}
use Rattle.ballots.specs.declared.ballot.Ballot.{Ballot}
use Rattle.ballots.specs.declared.message.Message.{Message}
use Rattle.ballots.specs.declared.message.Message.TheVariants as message
use Rattle.ballots.specs.declared.request.RequestId.{RequestId}
use Rattle.proposer.specs.Submitting.{IsSubmitted, takes_request}
use Rattle.proposer.specs.Terms.{Leading, is_open}
use Rattle.member.specs.Drafts.{Says, send_to}
use Rattle.member.specs.Steps.{Member}
use Rattle.member.specs.declared.draft.Change.TheVariants.{Nothing, Submit as Submits}
use Rattle.member.specs.declared.draft.Draft.{Draft}
use Rattle.member.specs.declared.outcome.Target.TheVariants as target
use Rattle.member.proofs.Submitting.{elsewhere_plans, open_plans, placeless_plans, submitted_plans}
use Rattle.member.proofs.member.Member.draft_submit.Goals as goal

pub returns-then-has_open-clause-drafted : goal.returns-then-has_open-clause-drafted
returns-then-has_open-clause-drafted g c =
    let q = c.args.request.now in
    let is : is_open q c.self.inside.proposer ≡ true = sym (c.has_open.ensures q (sym (ap (λ (i : RequestId). i.client) c.id-id.ensures)) (sym (ap (λ (i : RequestId). i.number) c.id-id.ensures))) ∙ c.if-has_open.true in
    open_plans {R = g.row.R.Denot} c.args.self.now c.args.sender q c.quiet.result c.requires.heard (subst (λ (x : Member g.row.R.Denot). is_open q x.proposer ≡ true) c.self.view_is is) c.quiet.ensures

pub returns-in_ok-prepares_then_accepts-in-Ok-clause-drafted : goal.returns-in_ok-prepares_then_accepts-in-Ok-clause-drafted
returns-in_ok-prepares_then_accepts-in-Ok-clause-drafted g c =
    let q = c.args.request.now in
    let i = c.self.inside in
    let p = c.in-Ok.draft in
    let d : Draft = record { sends = c.in_ok-prepares_then_accepts-in-Ok.field-0; tells = c.new.result; change = Submits p } in
    let is : is_open q i.proposer ≡ false = sym (c.has_open.ensures q (sym (ap (λ (i : RequestId). i.client) c.id-id.ensures)) (sym (ap (λ (i : RequestId). i.number) c.id-id.ensures))) ∙ c.if-has_open.false in
    let made = c.in-Ok.ensures.submitted in
    submitted_plans {R = g.row.R.Denot} c.args.self.now c.args.sender q d p c.requires.heard (subst (λ (x : Member g.row.R.Denot). x.proposer.members ≡ x.members) c.self.view_is c.self.invariant.3)
    (subst (λ (x : Member g.row.R.Denot). x.proposer.member ≡ x.number) c.self.view_is c.self.invariant.4)
    (subst (λ (x : Member g.row.R.Denot). is_open q x.proposer ≡ false) c.self.view_is is) made.0
    (subst (λ (x : Member g.row.R.Denot). IsSubmitted q x.proposer made.0 p.change p.answer) c.self.view_is made.1)
    c.in_ok-prepares_then_accepts-in-Ok.ensures.sends c.new.ensures.items refl

pub returns-in_ok-say-in-Err-NotLeading-clause-drafted : goal.returns-in_ok-say-in-Err-NotLeading-clause-drafted
returns-in_ok-say-in-Err-NotLeading-clause-drafted g c =
    let none = c.in-Err-NotLeading.ensures.not_leading.0 (ap Err c.in-Err-NotLeading.field-0-is) in
    let said : message.Elsewhere c.id-id.result.client c.id-id.result.number c.promised.result.member ≡ message.Elsewhere c.args.request.now.client c.args.request.now.number c.args.self.now.acceptor.kept.promise.member
    = ap₂ (λ (i : RequestId) (b : Ballot). message.Elsewhere i.client i.number b.member) c.id-id.ensures c.promised.ensures in
    elsewhere_plans {R = g.row.R.Denot} c.args.self.now c.args.sender c.args.request.now c.in_ok-say-in-Err-NotLeading.field-0 c.requires.heard
    (subst (λ (x : Member g.row.R.Denot). x.proposer.lead ≡ None) c.self.view_is none)
    (subst (λ (k : Message). Says c.in_ok-say-in-Err-NotLeading.field-0 (send_to target.Client k ∷ []) Nothing) said c.in_ok-say-in-Err-NotLeading.ensures)

pub returns-in-Err-NoPlace-clause-drafted : goal.returns-in-Err-NoPlace-clause-drafted
returns-in-Err-NoPlace-clause-drafted g c =
    let i = c.self.inside in
    let leads : i.proposer.lead ≡ None → ⊥ = λ e. (let w = c.in-Err-NoPlace.ensures.not_leading.1 e in let is = c.in-Err-NoPlace.field-0-is in cc) in
    let none : (l : Leading) → i.proposer.lead ≡ Some l → takes_request i.proposer.members l ≡ false = λ l e. (c.in-Err-NoPlace.ensures.no_place l e).0 (ap Err c.in-Err-NoPlace.field-0-is) in
    placeless_plans {R = g.row.R.Denot} c.args.self.now c.args.sender c.args.request.now c.quiet-in-Err-NoPlace.result c.requires.heard
    (subst (λ (x : Member g.row.R.Denot). x.proposer.lead ≡ None → ⊥) c.self.view_is leads)
    (subst (λ (x : Member g.row.R.Denot). x.proposer.members ≡ x.members) c.self.view_is c.self.invariant.3)
    (subst (λ (x : Member g.row.R.Denot). (l : Leading) → x.proposer.lead ≡ Some l → takes_request x.proposer.members l ≡ false) c.self.view_is none) c.quiet-in-Err-NoPlace.ensures
