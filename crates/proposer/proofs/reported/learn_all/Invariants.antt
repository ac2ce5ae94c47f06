use Rattle.proposer.proofs.Merging.{Learns}
use Rattle.std.proofs.Common.{drop}
use Rattle.proposer.proofs.reported.learn_all.Given as goal

abbrev pub invariant-loop-position : goal.invariant-loop-position
invariant-loop-position l = Learns l.learnt (drop l.position-index l.learnt) l.fn.map l.map
