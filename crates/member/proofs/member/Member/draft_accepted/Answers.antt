use Rattle.std.proofs.Common.{◌≤◌, ◌∙◌, arith, ap, map, refl, subst, sym}
use Rattle.ballots.specs.Messages.{Accepted, packet}
use Rattle.learner.proofs.Hearing.{change_as_was}
use Rattle.paxos.specs.Knowledge.{AcceptedBy, pair_of}
use Rattle.proposer.specs.Hearing.{TakesLearnt}
use Rattle.member.specs.declared.draft.Change.TheVariants.{News}
use Rattle.member.specs.declared.draft.Draft.{Draft}
use Rattle.member.specs.Drafts.{IsDrafted}
use Rattle.member.specs.Steps.{Hears, IsHeard, Member}
use Rattle.member.proofs.Learning.{accepted_plans}
use Rattle.member.proofs.member.Member.draft_accepted.Goals as goal

pub draft_accepted-requires-clause-most_member : goal.draft_accepted-requires-clause-most_member
draft_accepted-requires-clause-most_member g c =
    let most = subst (λ (x : Member g.row.R.Denot). c.args.sender ≤ x.members) (sym c.self.view_is) c.requires.most_sender in
    let few = c.self.invariant.2 in
    omega (arith, most, few)

pub returns-clause-drafted : goal.returns-clause-drafted
returns-clause-drafted g c =
    let i = c.self.inside in
    let s = c.args.sender in
    let body = (Accepted c.args.position c.args.vote.now) in
    let h = (AcceptedBy s c.args.position c.args.vote.now) in
    let l = c.in_ok-heard.heard in
    let a = c.in_ok-learnt.learnt in
    let same = c.in_ok-learnt.ensures.same in
    let new : Member g.row.R.Denot = record { members = i.members; number = i.number; acceptor = i.acceptor; proposer = c.draft_learned.new.self; learner = c.draft_accepted.new.self } in
    let d : Draft = record { sends = c.in_ok-prepares_first.field-0; tells = c.in_ok-told_at.field-0; change = News l a } in
    let heard : IsHeard i.members (Hears (packet s body i.number)) = subst (λ (x : Member g.row.R.Denot). IsHeard x.members (Hears (packet s body x.number))) (sym c.self.view_is) c.requires.heard in
    let takes : TakesLearnt c.draft_learned.new.self.members c.draft_learned.new.self.lead l.news a.change a.answer = subst (λ ps. TakesLearnt c.draft_learned.new.self.members c.draft_learned.new.self.lead ps a.change a.answer) c.news.ensures c.in_ok-learnt.ensures.takes in
    subst (λ (x : Member g.row.R.Denot). IsDrafted {R = g.row.R.Denot} (Hears (packet s body x.number)) new d) c.self.view_is
    (accepted_plans {R = g.row.R.Denot} new d s c.args.position c.args.vote.now l a (same.members ∙ c.self.invariant.3) (same.member ∙ c.self.invariant.4) (c.in_ok-heard.ensures.same.members ∙ c.self.invariant.5) c.self.invariant.2 heard (c.in_ok-heard.ensures.change ∙ sym (change_as_was h i.learner c.draft_accepted.new.self c.in_ok-heard.ensures.same)) c.in_ok-heard.ensures.news takes c.in_ok-prepares_first.ensures.sends (c.in_ok-told_at.ensures ∙ ap (map (λ q. pair_of q c.args.vote.now.value)) c.news-2.ensures) refl)
