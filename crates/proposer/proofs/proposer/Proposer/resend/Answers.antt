use Rattle.std.proofs.Common.{sym, ap, subst, ◌∙◌}
use Rattle.proposer.specs.Knowing.{IsAgain}
use Rattle.proposer.specs.Terms.{Proposer}
use Rattle.proposer.proofs.Resending.{again_took}
use Rattle.proposer.proofs.proposer.Proposer.resend.Goals as goal

pub returns-in_ok-say_again-in-Some : goal.returns-in_ok-say_again-in-Some
returns-in_ok-say_again-in-Some c =
    let lead = sym (ap (λ (x : Proposer). x.lead) c.self.view_is) ∙ ap (λ l. l) c.in-Some.is in
    let members = ap (λ (x : Proposer). x.members) c.self.view_is in
    record { took = again_took c.args.self.now c.in-Some.lead c.in_ok-say_again-in-Some.field-0 lead (subst (λ n. IsAgain n c.in-Some.lead c.in_ok-say_again-in-Some.field-0) members c.in_ok-say_again-in-Some.ensures) }
