use Rattle.std.proofs.Common.{Some, None}
use Rattle.learner.proofs.Adding.{mask_tallied}
use Rattle.learner.proofs.tallies.Tallies.mask_of.Goals as goal

pub returns-in-Some : goal.returns-in-Some
returns-in-Some c = λ m l. rw (c.mask_of.ensures, ← c.self.view_is) (mask_tallied c.args.position c.args.vote.now m c.self.inside.votes c.self.inside.heard c.self.inside.polls.entries (Some c.in-Some.poll.now) c.self.invariant c.in-Some.ensures.value)

pub returns-in-None : goal.returns-in-None
returns-in-None c = λ m l. rw (← c.self.view_is) (mask_tallied c.args.position c.args.vote.now m c.self.inside.votes c.self.inside.heard c.self.inside.polls.entries None c.self.invariant c.in-None.ensures.value)
