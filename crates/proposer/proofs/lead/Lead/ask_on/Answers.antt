use Rattle.std.proofs.Common.{ap, ◌∙◌, ◌+◌, ◌++◌}
use Rattle.proposer.specs.Knowing.{asked_of}
use Rattle.proposer.proofs.Resending.{asked_more}
use Rattle.proposer.proofs.lead.Lead.ask_on.Goals as goal

pub loop-before-preserved : goal.loop-before-preserved
loop-before-preserved c = c.in_ok-ask_member.ensures ∙ ap (λ xs. xs ++ asked_of c.args.self.now (c.loop-before.before + 1)) c.loop-before.invariant ∙ asked_more c.args.self.now c.loop-before.before
