use Rattle.std.proofs.Common.{◌≡◌, ◌≤◌, ◌∙◌, false, refl, subst, sym}
use Rattle.ballots.specs.Ballot.{below}
use Rattle.ballots.specs.Messages.{Promise, packet, window_of}
use Rattle.member.specs.declared.draft.Change.TheVariants.{Promise as Promises}
use Rattle.member.specs.declared.draft.Draft.{Draft}
use Rattle.member.specs.Drafts.{IsDrafted}
use Rattle.member.specs.Steps.{Hears, IsHeard, Member}
use Rattle.member.proofs.Leading.{promise_plans}
use Rattle.member.proofs.member.Member.draft_window.Goals as goal

pub returns-clause-drafted : goal.returns-clause-drafted
returns-clause-drafted g c =
    let i = c.self.inside in
    let s = c.args.sender in
    let w = window_of c.args.window.now in
    let p = c.in_ok-draft.draft in
    let same = c.in_ok-draft.ensures.same in
    let new : Member g.row.R.Denot = record { members = i.members; number = i.number; acceptor = i.acceptor; proposer = c.draft_promise.new.self; learner = i.learner } in
    let d : Draft = record { sends = c.in_ok-prepares_first.field-0; tells = c.new.result; change = Promises p } in
    let heard : IsHeard i.members (Hears (packet s (Promise w) i.number)) = subst (λ (x : Member g.row.R.Denot). IsHeard x.members (Hears (packet s (Promise w) x.number))) (sym c.self.view_is) c.requires.heard in
    let members = same.members ∙ c.self.invariant.3 in
    let most : s ≤ c.draft_promise.new.self.members = subst (λ n. s ≤ n) (sym members) (subst (λ (x : Member g.row.R.Denot). s ≤ x.members) (sym c.self.view_is) c.requires.most) in
    subst (λ (x : Member g.row.R.Denot). IsDrafted {R = g.row.R.Denot} (Hears (packet s (Promise w) x.number)) new d) c.self.view_is
    (promise_plans {R = g.row.R.Denot} new d p s w members (same.member ∙ c.self.invariant.4) (subst (λ (x : Member g.row.R.Denot). below x.acceptor.kept.promise c.args.window.now.ballot ≡ false) (sym c.self.view_is) c.requires.called_for) heard c.requires.least most c.requires.window c.in_ok-draft.ensures.takes c.in_ok-prepares_first.ensures.sends c.new.ensures.items refl)
