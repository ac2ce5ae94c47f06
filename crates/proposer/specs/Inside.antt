-- What holds inside a proposer that leads.
use Rattle.std.specs.Prelude.{◌≡◌, ◌<◌, ◌≤◌, ◌⊎◌, ℕ, true, false, List, None, IsSome}
use Rattle.ballots.specs.Values.{positions}
use Rattle.position_map.specs.Slots.{Slot, filled, value_at}
use Rattle.proposer.specs.Terms.{Leading, report_of, is_learnt_of}

-- no value stands past the last position
abbrev pub IsWithin : {V : Type 0} → List (Slot V) → Type 0
IsWithin ss = (p : ℕ) → positions < p → value_at p (filled ss) ≡ None

-- the last position that has a report or is learnt, 0 where there is none
pub record IsLastKnown (l : Leading) (last : ℕ) : Type 0 where
  pub above : (p : ℕ) → last < p → (report_of l p ≡ None) × (is_learnt_of l p ≡ false)
  pub there : 0 < last → IsSome (report_of l last) ⊎ (is_learnt_of l last ≡ true)
  pub most : last ≤ positions
