use Rattle.position_map.specs.Slots.{filled}
use Rattle.learner.proofs.Learning.{lowest_is, lowest_within}
use Rattle.learner.proofs.learner.Learner.next_learned.Goals as goal

pub returns-clause-lowest : goal.returns-clause-lowest
returns-clause-lowest c = rw (← c.self.view_is) (lowest_is c.next_from.result c.args.from (filled c.self.inside.chosen) c.next_from.ensures)

pub returns-clause-within : goal.returns-clause-within
returns-clause-within c = lowest_within c.next_from.result c.args.from c.self.inside.chosen c.self.invariant.1 c.next_from.ensures
