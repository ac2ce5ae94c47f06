use Rattle.std.proofs.Common.{ℕ, ◌+◌, ◌<◌, ◌*◌, arith, sym, subst, List}
use Rattle.ballots.specs.Messages.{up_to}
use Rattle.ballots.specs.declared.value.Value.TheVariants.{Request as Of}
use Rattle.paxos.specs.Knowledge.{pair_of}
use Rattle.paxos.specs.Lists.{Has}
use Rattle.paxos.specs.World.{Told, told_to}
use Rattle.paxos.proofs.Lists.{map_has}
use Rattle.straight_runs.specs.Straight.{closing}
use Rattle.straight_runs.proofs.Smooth.{reaches_run}
use Rattle.straight_runs.proofs.Sums.{closing_left}
use Rattle.straight_runs.proofs.Ends.{sent, all_sent, told, applied}
use Rattle.straight_runs.proofs.Whole.{closed, has_member}
use Rattle.straight_runs.proofs.laws.straight_closing.Goals as goal

pub returns-clause-sent : goal.returns-clause-sent
returns-clause-sent c = sent

pub returns-clause-left : goal.returns-clause-left
returns-clause-left c app n m q j end l h u g r = subst (λ (k : ℕ). 2 * n + j < k) (sym (sent app n m q j end l h u (omega arith) r)) (closing_left n j (omega arith) g)

pub returns-clause-all_delivered : goal.returns-clause-all_delivered
returns-clause-all_delivered c = all_sent

pub returns-clause-told_once : goal.returns-clause-told_once
returns-clause-told_once c = told

pub returns-clause-told : goal.returns-clause-told
returns-clause-told c app n m q k end l h a b u r = subst (λ (ts : List Told). Has ts (told_to k (pair_of 1 (Of q)))) (sym (told app n m q end l h u r))
    (map_has (λ i. told_to i (pair_of 1 (Of q))) (up_to n) k (has_member n k a b))

pub returns-clause-applied : goal.returns-clause-applied
returns-clause-applied c = applied

pub returns-clause-possible : goal.returns-clause-possible
returns-clause-possible c app n m q j l h u g =
    let e = closed app n m q l h u j g in
    (e.world, reaches_run app n (closing n m q j) e.world e.reached)
