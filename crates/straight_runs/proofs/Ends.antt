-- What a straight run has come to when all is delivered.
use Rattle.std.proofs.Common.{◌≡◌, ℕ, ◌+◌, ◌≤◌, ◌*◌, arith, sym, subst, ap, ◌∙◌, length, [], None, map}
use Rattle.ballots.specs.Messages.{up_to}
use Rattle.ballots.specs.Terms.{Request}
use Rattle.ballots.specs.declared.value.Value.TheVariants.{Request as Of}
use Rattle.paxos.specs.Agreement.{IsRunning}
use Rattle.paxos.specs.Application.{Application}
use Rattle.paxos.specs.Knowledge.{pair_of}
use Rattle.paxos.specs.Step.{Running}
use Rattle.paxos.specs.World.{World, told_to}
use Rattle.paxos.specs.Smooth.{SmoothRun}
use Rattle.straight_runs.specs.Straight.{closing, closing_sent}
use Rattle.straight_runs.proofs.Phases.{learning}
use Rattle.straight_runs.proofs.Smooth.{reaches_end}
use Rattle.straight_runs.proofs.Sums.{closing_all}
use Rattle.straight_runs.proofs.Whole.{ended, closed, all_told, all_applied}

module _ (app : Application) (n m : ℕ) (q : Request) where
  -- how many messages were sent, after so many deliveries and after all
  pub sent : (j : ℕ) (end : World) → 1 ≤ m → m ≤ n → app.reply [] q.client q.number ≡ None → j ≤ n * n + n + 1 → SmoothRun app n (closing n m q j) end → length end.sent ≡ closing_sent n j
  sent j end l h u g r =
      let e = closed app n m q l h u j g in
      ap (λ (w : World). length w.sent) (sym (reaches_end app n (closing n m q j) e.world end e.reached r)) ∙ e.many

  the_end : (end : World) → 1 ≤ m → m ≤ n → app.reply [] q.client q.number ≡ None → SmoothRun app n (closing n m q (n * n + n + 1)) end → learning n m q n 0 ≡ end
  the_end end l h u r = reaches_end app n (closing n m q (n * n + n + 1)) (learning n m q n 0) end (ended app n m q l h u) r

  pub all_sent : (end : World) → 1 ≤ m → m ≤ n → app.reply [] q.client q.number ≡ None → SmoothRun app n (closing n m q (n * n + n + 1)) end → length end.sent ≡ n * n + 3 * n + 1
  all_sent end l h u r = sent (n * n + n + 1) end l h u (omega arith) r ∙ closing_all n

  -- what was told, and how many positions each member has applied
  pub told : (end : World) → 1 ≤ m → m ≤ n → app.reply [] q.client q.number ≡ None → SmoothRun app n (closing n m q (n * n + n + 1)) end → end.told ≡ map (λ k. told_to k (pair_of 1 (Of q))) (up_to n)
  told end l h u r = ap (λ (w : World). w.told) (sym (the_end end l h u r)) ∙ all_told app n m q l h

  pub applied : (k : ℕ) (end : World) → 1 ≤ m → m ≤ n → 1 ≤ k → k ≤ n → app.reply [] q.client q.number ≡ None → SmoothRun app n (closing n m q (n * n + n + 1)) end
      → (x : Running) × IsRunning end k x × (x.applied ≡ 1)
  applied k end l h a b u r = subst (λ (w : World). (x : Running) × IsRunning w k x × (x.applied ≡ 1)) (the_end end l h u r) (all_applied app n m q l h k a b)
