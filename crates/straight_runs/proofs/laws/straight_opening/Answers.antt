use Rattle.std.proofs.Common.{◌≡◌, ℕ, ◌<◌, ◌≤◌, ◌*◌, arith, sym, subst, ap, ◌∙◌, length}
use Rattle.paxos.specs.Application.{Application}
use Rattle.paxos.specs.World.{World}
use Rattle.paxos.specs.Smooth.{SmoothRun}
use Rattle.straight_runs.specs.Straight.{opening, opening_sent}
use Rattle.straight_runs.proofs.Smooth.{reaches_end, reaches_run}
use Rattle.straight_runs.proofs.Sums.{opening_left, opening_all}
use Rattle.straight_runs.proofs.Whole.{opened}
use Rattle.straight_runs.proofs.laws.straight_opening.Goals as goal

sent : (app : Application) (n m j : ℕ) (end : World) → 1 ≤ m → m ≤ n → j ≤ 2 * n → SmoothRun app n (opening m j) end → length end.sent ≡ opening_sent n j
sent app n m j end l h g r =
    let e = opened app n m l h j g in
    ap (λ (w : World). length w.sent) (sym (reaches_end app n (opening m j) e.world end e.reached r)) ∙ e.many

pub returns-clause-sent : goal.returns-clause-sent
returns-clause-sent c = sent

pub returns-clause-left : goal.returns-clause-left
returns-clause-left c app n m j end l h g r = subst (λ (k : ℕ). j < k) (sym (sent app n m j end l h (omega arith) r)) (opening_left n j (omega arith) g)

pub returns-clause-all_delivered : goal.returns-clause-all_delivered
returns-clause-all_delivered c app n m end l h r = sent app n m (2 * n) end l h (omega arith) r ∙ opening_all n

pub returns-clause-possible : goal.returns-clause-possible
returns-clause-possible c app n m j l h g =
    let e = opened app n m l h j g in
    (e.world, reaches_run app n (opening m j) e.world e.reached)
