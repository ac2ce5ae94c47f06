use Rattle.std.proofs.Common.{sym, ap, ◌∙◌, arith}
use Rattle.std.proofs.lemmas.Bool.{false≢true}
use Rattle.learner.specs.Polls.{has_vote}
use Rattle.learner.proofs.Rooms.{first_found}
use Rattle.learner.proofs.Voting.{has_absent, voter_found}
use Rattle.learner.proofs.poll.add.Goals as goal

pub returns-then-is_same-clause-added : goal.returns-then-is_same-clause-added
returns-then-is_same-clause-added c = rw (← c.loop-heard.invariant.same) (voter_found c.args.member _ c.args.vote.now _ c.loop-heard.heard-index c.heard-item.result c.loop-heard.invariant.others (omega arith) (sym c.is_same.ensures ∙ c.if-is_same.true) c.mask_with-heard.ensures)

pub returns-then-is_same-clause-grew : goal.returns-then-is_same-clause-grew
returns-then-is_same-clause-grew c = rw (← c.loop-heard.invariant.same) (first_found c.args.member c.args.vote.now _ c.loop-heard.heard-index c.heard-item.result c.requires.least c.loop-heard.invariant.others (omega arith) (sym c.is_same.ensures ∙ c.if-is_same.true))

pub returns : goal.returns
returns c = absurd (false≢true (has_absent c.args.vote.now c.loop-heard.voters c.loop-heard.heard-index c.loop-heard.invariant.others (omega arith) ∙ ap (has_vote c.args.vote.now) c.loop-heard.invariant.same ∙ c.requires.room))
