use Rattle.std.proofs.Common.{◌∙◌, arith, ap, refl, subst, sym}
use Rattle.ballots.specs.Messages.{Chosen, packet}
use Rattle.learner.proofs.Hearing.{change_as_was}
use Rattle.learner.specs.Changes.{positions_of}
use Rattle.learner.specs.Terms.{learnt_of}
use Rattle.ballots.specs.Values.{IsRising}
use Rattle.paxos.specs.Knowledge.{ChosenAre}
use Rattle.proposer.specs.Hearing.{TakesLearnt}
use Rattle.member.specs.declared.draft.Change.TheVariants.{News}
use Rattle.member.specs.declared.draft.Draft.{Draft}
use Rattle.member.specs.Drafts.{IsDrafted}
use Rattle.member.specs.Steps.{Hears, IsHeard, Member}
use Rattle.member.proofs.Learning.{chosen_plans, chosen_rising}
use Rattle.member.proofs.member.Member.draft_chosen.Goals as goal

pub draft_learned-requires : goal.draft_learned-requires
draft_learned-requires g c =
    record { rising = subst (IsRising 1) (sym (c.news.ensures ∙ c.in_ok-heard.ensures.news ∙ ap positions_of c.in_ok-heard.ensures.change)) (chosen_rising (learnt_of c.self.inside.learner) c.args.pairs.now 1 1 (omega arith) c.requires.pairs) }

pub returns-clause-drafted : goal.returns-clause-drafted
returns-clause-drafted g c =
    let i = c.self.inside in
    let s = c.args.sender in
    let body = (Chosen c.args.pairs.now) in
    let h = (ChosenAre c.args.pairs.now) in
    let l = c.in_ok-heard.heard in
    let a = c.in_ok-learnt.learnt in
    let same = c.in_ok-learnt.ensures.same in
    let new : Member g.row.R.Denot = record { members = i.members; number = i.number; acceptor = i.acceptor; proposer = c.draft_learned.new.self; learner = c.draft_chosen.new.self } in
    let d : Draft = record { sends = c.in_ok-prepares_first.field-0; tells = c.in_ok-told_among.field-0; change = News l a } in
    let heard : IsHeard i.members (Hears (packet s body i.number)) = subst (λ (x : Member g.row.R.Denot). IsHeard x.members (Hears (packet s body x.number))) (sym c.self.view_is) c.requires.heard in
    let takes : TakesLearnt c.draft_learned.new.self.members c.draft_learned.new.self.lead l.news a.change a.answer = subst (λ ps. TakesLearnt c.draft_learned.new.self.members c.draft_learned.new.self.lead ps a.change a.answer) c.news.ensures c.in_ok-learnt.ensures.takes in
    subst (λ (x : Member g.row.R.Denot). IsDrafted {R = g.row.R.Denot} (Hears (packet s body x.number)) new d) c.self.view_is
    (chosen_plans {R = g.row.R.Denot} new d s c.args.pairs.now l a (same.members ∙ c.self.invariant.3) (same.member ∙ c.self.invariant.4) (c.in_ok-heard.ensures.same.members ∙ c.self.invariant.5) c.self.invariant.2 heard c.requires.pairs (c.in_ok-heard.ensures.change ∙ sym (change_as_was h i.learner c.draft_chosen.new.self c.in_ok-heard.ensures.same)) c.in_ok-heard.ensures.news takes c.in_ok-prepares_first.ensures.sends c.in_ok-told_among.ensures refl)
