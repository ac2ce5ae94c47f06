use Rattle.std.proofs.Common.{sym, ap, ◌∙◌}
use Rattle.proposer.specs.Following.{is_followed_of}
use Rattle.proposer.specs.Terms.{Proposer}
use Rattle.proposer.proofs.Followed.{followed_alike}
use Rattle.proposer.proofs.proposer.Proposer.is_followed.Goals as goal

pub returns-in-Some : goal.returns-in-Some
returns-in-Some c = λ heard leader knows.
    c.is_followed.ensures ∙ ap (λ (x : Proposer). is_followed_of x.members c.in-Some.lead) c.self.view_is
    ∙ followed_alike heard leader c.args.self.now c.in-Some.lead (sym (ap (λ (x : Proposer). x.lead) c.self.view_is) ∙ c.in-Some.is) knows
