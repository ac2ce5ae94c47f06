use Rattle.std.proofs.Common.{Some}
use Rattle.learner.proofs.Placing.{forgotten}
use Rattle.learner.proofs.tallies.Tallies.forget.Goals as goal

pub overflow_sub-self : goal.overflow_sub-self
overflow_sub-self c = rw c.len.ensures (forgotten _ _ c.args.position c.self.inside.polls.entries c.remove.new.self.entries (Some c.in-Some.poll) c.self.invariant c.in-Some.ensures.value c.remove.ensures.entries c.remove.ensures.updates.0).2

pub overflow_sub-self-in-Some : goal.overflow_sub-self-in-Some
overflow_sub-self-in-Some c = rw c.heard.ensures (forgotten _ _ c.args.position c.self.inside.polls.entries c.remove.new.self.entries (Some c.in-Some.poll) c.self.invariant c.in-Some.ensures.value c.remove.ensures.entries c.remove.ensures.updates.0).3

pub invariant_of-self : goal.invariant_of-self
invariant_of-self c = rw (c.len.ensures, c.heard.ensures) (forgotten _ _ c.args.position c.self.inside.polls.entries c.remove.new.self.entries (Some c.in-Some.poll) c.self.invariant c.in-Some.ensures.value c.remove.ensures.entries c.remove.ensures.updates.0).1

pub returns-in-Some : goal.returns-in-Some
returns-in-Some c = rw (← c.self.view_is) (forgotten _ _ c.args.position c.self.inside.polls.entries c.remove.new.self.entries (Some c.in-Some.poll) c.self.invariant c.in-Some.ensures.value c.remove.ensures.entries c.remove.ensures.updates.0).0

pub returns-in_default : goal.returns-in_default
returns-in_default c = rw (← c.self.view_is) (forgotten _ _ c.args.position c.self.inside.polls.entries c.remove.new.self.entries c.remove.result c.self.invariant c.remove.ensures.value c.remove.ensures.entries c.remove.ensures.updates.0).0
