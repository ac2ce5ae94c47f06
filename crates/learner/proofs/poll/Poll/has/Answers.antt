use Rattle.std.proofs.Common.{sym, ◌∙◌, arith}
use Rattle.learner.proofs.Voting.{has_found, has_absent}
use Rattle.learner.proofs.poll.Poll.has.Goals as goal

pub returns-then-is_same : goal.returns-then-is_same
returns-then-is_same c = rw (← c.self.view_is, ← c.deref-voters-items.ensures.value) (has_found c.args.vote.now _ c.loop-voters.voters-index c.voters-item.result c.loop-voters.invariant (omega arith) c.voters-item.is (sym c.is_same.ensures ∙ c.if-is_same.true))

pub returns : goal.returns
returns c = rw (← c.self.view_is, ← c.deref-voters-items.ensures.value) (has_absent c.args.vote.now _ c.loop-voters.voters-index c.loop-voters.invariant (omega arith))
