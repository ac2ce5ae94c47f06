-- Values by position, with room for values that are to come.
use Rattle.std.specs.Prelude.{◌≡◌, ◌<◌, ◌≤◌, ℕ, ◌==◌, suc, if◌then◌else◌, List, [], ◌∷◌, Option, Some, None, IsSome}

-- a position, and the value there or the room for one
abbrev pub Slot : Type 0 → Type 0
Slot V = ℕ × Option V

-- the values with that of a slot before them, if it has one
abbrev pub with_slot : {V : Type 0} → (position : ℕ) → Option V → List (ℕ × V) → List (ℕ × V)
with_slot p None es = es
with_slot p (Some value) es = (p, value) ∷ es

-- the values of slots, with their positions
abbrev pub filled : {V : Type 0} → List (Slot V) → List (ℕ × V)
filled [] = []
filled (s ∷ ss) = with_slot s.0 s.1 (filled ss)

-- the value at a position, if there is one
abbrev pub value_at : {V : Type 0} → (position : ℕ) → List (ℕ × V) → Option V
value_at p [] = None
value_at p (e ∷ es) = if p == e.0 then Some e.1 else value_at p es

-- positions are above p, and rise
abbrev pub Rise : {A : Type 0} → (p : ℕ) → List (ℕ × A) → Type 0
Rise p [] = Unit {0}
Rise p (e ∷ es) = (p < e.0) × Rise e.0 es

-- there is a slot at the position
abbrev pub HasSlot : {V : Type 0} → (position : ℕ) → List (Slot V) → Type 0
HasSlot p ss = IsSome (value_at p ss)

-- the lowest position at or above p that has a value
pub record IsNext {V : Type 0} (es : List (ℕ × V)) (p : ℕ) (next : ℕ) : Type 0 where
  pub least : p ≤ next
  pub there : IsSome (value_at next es)
  pub first : (q : ℕ) → p ≤ q → q < next → value_at q es ≡ None

-- the last of the positions after p that have values without a gap (p itself if the first of them has none)
pub record IsRunEnd {V : Type 0} (es : List (ℕ × V)) (p : ℕ) (end : ℕ) : Type 0 where
  pub least : p ≤ end
  pub each : (q : ℕ) → p < q → q ≤ end → IsSome (value_at q es)
  pub longest : value_at (suc end) es ≡ None
