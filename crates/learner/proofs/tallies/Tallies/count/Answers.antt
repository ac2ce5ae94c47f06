use Rattle.std.proofs.Common.{◌≡◌, ◌∙◌, ◌+◌, true, sym, subst, List, arith}
use Rattle.std.specs.List.{list_any}
use Rattle.learner.specs.Hearing.{is_of}
use Rattle.learner.specs.Terms.{Tally}
use Rattle.learner.proofs.Rooms.{heard_most, tally_there}
use Rattle.learner.proofs.tallies.Tallies.count.Goals as goal

pub count_at-requires-clause-room : goal.count_at-requires-clause-room
count_at-requires-clause-room c = sym (tally_there c.args.position c.args.vote.now c.self.inside.polls.entries c.self.invariant.rise) ∙ subst (λ (ts : List Tally). list_any (is_of c.args.position c.args.vote.now) ts ≡ true) (sym c.self.view_is) c.requires.room

pub overflow_add-self : goal.overflow_add-self
overflow_add-self c = let k = heard_most c.self.inside.votes (c.self.inside.heard + 1) c.count_at.new.polls.entries (rw c.if-count_at.true at (c.count_at.ensures.counted c.self.inside.votes c.self.inside.heard c.self.invariant)) in omega arith

pub returns-then-count_at : goal.returns-then-count_at
returns-then-count_at c = rw (← c.self.view_is) (c.count_at.ensures.added _ _ c.self.invariant)

pub returns-else-count_at : goal.returns-else-count_at
returns-else-count_at c = rw (← c.self.view_is) (c.count_at.ensures.added _ _ c.self.invariant)
