use Rattle.std.proofs.Common.{◌≡◌, ◌≤◌, suc, ◌-◌, ◌++◌, take}
use Rattle.ballots.specs.Values.{positions}
use Rattle.learner.specs.Terms.{learnt_of}
use Rattle.member.specs.Learnt.{pairs_from}
use Rattle.member.proofs.learnt.lowest_pairs.Given as goal

abbrev pub invariant-loop-turn : goal.invariant-loop-turn
invariant-loop-turn l =
    record {
      most : l.next ≤ suc positions;
      found : take 8 (pairs_from (learnt_of l.learner) l.from) ≡ l.pairs.items ++ take (8 - l._turn) (pairs_from (learnt_of l.learner) l.next);
    }
