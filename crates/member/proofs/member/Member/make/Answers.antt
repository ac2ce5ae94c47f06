use Rattle.std.proofs.Common.{◌≡◌, false, refl, subst}
use Rattle.member.specs.Drafts.{IsMade}
use Rattle.member.specs.Steps.{Member}
use Rattle.member.specs.declared.draft.Change.TheVariants.{News}
use Rattle.member.proofs.member.Member.make.Goals as goal

pub returns-in-News-clause-made : goal.returns-in-News-clause-made
returns-in-News-clause-made g c =
    let new : Member g.row.R.Denot = record { members = c.self.inside.members; number = c.self.inside.number; acceptor = c.self.inside.acceptor; proposer = c.lead-in-News.new.proposer; learner = c.commit-in-News.new.self } in
    rw c.in-News.is (subst (λ (x : Member g.row.R.Denot). x.acceptor.is_stopped ≡ false → IsMade {R = g.row.R.Denot} x (News c.in-News.heard c.in-News.learnt) new) c.self.view_is (λ runs.
    record { members = refl; number = refl; kept = refl; runs = runs; leads = c.lead-in-News.ensures.made; learns = c.commit-in-News.ensures.heard }))
