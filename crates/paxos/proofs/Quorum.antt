-- Two majorities share a member.
use Rattle.std.proofs.Common.{◌≡◌, ℕ, zero, suc, ◌+◌, ◌<◌, ◌≤◌, Bool, true, false, cond, arith, refl}
use Rattle.ballots.specs.Ballot.{count, IsMajority}

-- a member that is in both sets
pub record Shared (n : ℕ) (s t : ℕ → Bool) : Type 0 where
  pub member : ℕ
  pub bound : member ≤ n
  pub first : s member ≡ true
  pub second : t member ≡ true

-- a shared member among more members
wider : {n : ℕ} {s t : ℕ → Bool} → Shared n s t → Shared (suc n) s t
wider r = record { member = r.member; bound = omega arith; first = r.first; second = r.second }

-- one member more, in each set or not
shared_step : (n c d : ℕ) (s t : ℕ → Bool) (a b : Bool) → s (suc n) ≡ a → t (suc n) ≡ b → suc n < (cond a 1 0 + c) + (cond b 1 0 + d) → (n < c + d → Shared n s t) → Shared (suc n) s t
shared_step n c d s t true true p q h rest = record { member = suc n; bound = omega arith; first = p; second = q }
shared_step n c d s t true false p q h rest = wider (rest (omega arith))
shared_step n c d s t false true p q h rest = wider (rest (omega arith))
shared_step n c d s t false false p q h rest = wider (rest (omega arith))

-- sets that together count more than n share a member
shared : (n : ℕ) (s t : ℕ → Bool) → n < count n s + count n t → Shared n s t
shared zero s t h = absurd (omega arith)
shared (suc n) s t h = shared_step n (count n s) (count n t) s t (s (suc n)) (t (suc n)) refl refl h (shared n s t)

-- Two majorities share a member.
pub majorities_share : (n : ℕ) (s t : ℕ → Bool) → IsMajority n s → IsMajority n t → Shared n s t
majorities_share n s t h k = shared n s t (omega arith)
