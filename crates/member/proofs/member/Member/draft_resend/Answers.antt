use Rattle.std.proofs.Common.{refl, subst}
use Rattle.member.specs.Drafts.{IsDrafted}
use Rattle.member.specs.Steps.{Member, Resends}
use Rattle.member.specs.declared.draft.Change.TheVariants.{Nothing}
use Rattle.member.specs.declared.draft.Draft.{Draft}
use Rattle.member.proofs.Drafting.{resent_plans}
use Rattle.member.proofs.member.Member.draft_resend.Goals as goal

pub returns-clause-drafted : goal.returns-clause-drafted
returns-clause-drafted g c =
    let old : Member g.row.R.Denot = record { members = c.self.inside.members; number = c.self.inside.number; acceptor = c.self.inside.acceptor; proposer = c.self.inside.proposer; learner = c.self.inside.learner } in
    let d : Draft = record { sends = c.in_ok-accepts_first.field-0; tells = c.new.result; change = Nothing } in
    subst (λ (x : Member g.row.R.Denot). IsDrafted {R = g.row.R.Denot} Resends x d) c.self.view_is
    (resent_plans {R = g.row.R.Denot} old d c.in_ok-said.said c.self.invariant.3 c.self.invariant.4 c.in_ok-said.ensures.took c.in_ok-accepts_first.ensures.sends c.new.ensures.items refl)
