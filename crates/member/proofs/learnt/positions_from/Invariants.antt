use Rattle.std.proofs.Common.{suc, ◌-◌}
use Rattle.ballots.specs.Values.{positions}
use Rattle.learner.specs.Terms.{learnt_of}
use Rattle.member.proofs.Gathering.{AreGathered}
use Rattle.member.proofs.learnt.positions_from.Given as goal

abbrev pub invariant-loop-position : goal.invariant-loop-position
invariant-loop-position l = AreGathered (learnt_of l.learner) l.from l.next l.learnt.items

abbrev pub decreases-loop-position : goal.decreases-loop-position
decreases-loop-position l = suc positions - l.next
