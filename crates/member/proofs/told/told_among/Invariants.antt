use Rattle.std.proofs.Common.{◌≡◌, take}
use Rattle.learner.specs.Changes.{not_learnt}
use Rattle.learner.specs.Terms.{learnt_of}
use Rattle.member.proofs.told.told_among.Given as goal

abbrev pub invariant-loop-pair : goal.invariant-loop-pair
invariant-loop-pair l = l.told.items ≡ not_learnt (learnt_of l.learner) (take l.pair-index l.pairs)
