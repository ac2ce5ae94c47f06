use Rattle.std.proofs.Common.{sym, ◌∙◌, arith}
use Rattle.learner.proofs.Voting.{mask_found, mask_absent}
use Rattle.learner.proofs.poll.Poll.mask_of.Goals as goal

pub returns-then-is_same : goal.returns-then-is_same
returns-then-is_same c = rw (← c.self.view_is, ← c.deref-voters-items.ensures.value) (mask_found c.args.vote.now _ c.loop-voters.voters-index c.voters-item.result c.loop-voters.invariant (omega arith) c.voters-item.is (sym c.is_same.ensures ∙ c.if-is_same.true))

pub returns : goal.returns
returns c = rw (← c.self.view_is, ← c.deref-voters-items.ensures.value) (mask_absent c.args.vote.now _ c.loop-voters.voters-index c.loop-voters.invariant (omega arith))
