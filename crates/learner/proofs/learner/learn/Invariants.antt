use Rattle.std.proofs.Common.{List, vec_len}
use Rattle.ballots.specs.declared.value.Pair.{Pair}
use Rattle.learner.proofs.Learning.{IsLearning}
use Rattle.learner.proofs.learner.learn.Given as goal

abbrev pub invariant-loop-pair : goal.invariant-loop-pair
invariant-loop-pair l = (done : List Pair) × IsLearning l.initial.pairs.items l.pairs.items done l.initial.chosen l.chosen l.initial.tallies l.tallies

abbrev pub decreases-loop-pair : goal.decreases-loop-pair
decreases-loop-pair l = vec_len l.pairs
