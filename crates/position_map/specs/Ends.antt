-- Slots as they are kept: each with the other end of its run.
use Rattle.std.specs.Prelude.{◌≡◌, ◌≢◌, ◌≤◌, ◌-◌, ◌^◌, ◌==◌, ℕ, suc, true, if◌then◌else◌, List, [], ◌∷◌, Option, Some, None, IsSome, IsSomeAnd, MatchOption, is_some}
use Rattle.std.specs.List.{list_any}
use Rattle.std.specs.Option.{unwrap_or}
use Rattle.position_map.specs.declared.slot.Slot.{Slot as KeptSlot}
use Rattle.position_map.specs.Slots.{Slot, value_at, filled, Rise, IsRunEnd}

-- the one slot is a copy of the other, with a clone of its value if it has one
abbrev pub IsSlotCopy : {V : Type 0} → (V → V → Type 0) → KeptSlot V → KeptSlot V → Type 0
IsSlotCopy C s t = (t.other_end ≡ s.other_end) × MatchOption s.value (t.value ≡ None) (λ v. IsSomeAnd t.value (C v))

-- the slots without what they know of their runs
abbrev pub shown : {V : Type 0} → List (ℕ × KeptSlot V) → List (Slot V)
shown [] = []
shown (e ∷ es) = (e.0, e.1.value) ∷ shown es

-- the other end that a slot knows, and 0 where there is no slot
abbrev pub end_in : {V : Type 0} → Option (KeptSlot V) → ℕ
end_in None = 0
end_in (Some s) = s.other_end

-- the other end that the slot at a position knows
abbrev pub end_at : {V : Type 0} → (position : ℕ) → List (ℕ × KeptSlot V) → ℕ
end_at p es = end_in (value_at p es)

-- Each end of a run knows the other.
pub record KnowsEnds {V : Type 0} (es : List (ℕ × V)) (end : ℕ → ℕ) : Type 0 where
  pub first : (p : ℕ) → value_at p es ≡ None → IsSome (value_at (suc p) es) → IsRunEnd es p (end (suc p))
  pub last : (q : ℕ) → IsSome (value_at q es) → value_at (suc q) es ≡ None → (p : ℕ) × (end q ≡ suc p) × (value_at p es ≡ None) × IsRunEnd es p q

-- the other end that a position with a value knows
abbrev pub end_known : {V : Type 0} → List (ℕ × V) → (ℕ → ℕ) → (position : ℕ) → Option ℕ
end_known es end p = if is_some (value_at p es) then Some (end p) else None

-- the first position of the run that ends before p, or p where there is none
abbrev pub first_of : {V : Type 0} → List (ℕ × V) → (ℕ → ℕ) → (p : ℕ) → ℕ
first_of es end p = unwrap_or (end_known es end (p - 1)) p

-- the last position of the run that begins after p, or p where there is none
abbrev pub last_of : {V : Type 0} → List (ℕ × V) → (ℕ → ℕ) → (p : ℕ) → ℕ
last_of es end p = unwrap_or (end_known es end (suc p)) p

-- the two ends of a run know each other, and the other positions know what they knew
pub record Joins (first last : ℕ) (end new_end : ℕ → ℕ) : Type 0 where
  pub at_first : new_end first ≡ last
  pub at_last : new_end last ≡ first
  pub others : (q : ℕ) → q ≢ first → q ≢ last → new_end q ≡ end q

-- the slot at a position has a value now, and the others have what they had
pub record IsFilled {V : Type 0} (position : ℕ) (value : V) (es fs : List (ℕ × KeptSlot V)) : Type 0 where
  pub at : (q : ℕ) → value_at q (shown fs) ≡ (if q == position then Some (Some value) else value_at q (shown es))
  pub rise : Rise 0 (shown fs)
  pub ends : (q : ℕ) → end_at q fs ≡ end_at q es

-- what holds of the slots of each map, and of where its rooms may be
pub record IsKept {V : Type 0} (rooms : List ℕ) (es : List (ℕ × KeptSlot V)) : Type 0 where
  pub rise : Rise 0 (shown es)
  pub fits : (q : ℕ) → 2 ^ 32 ≤ q → value_at q (shown es) ≡ None
  pub among : (q : ℕ) → value_at q (shown es) ≡ Some None → list_any (λ r. q == r) rooms ≡ true
  pub ends : KnowsEnds (filled (shown es)) (λ q. end_at q es)
