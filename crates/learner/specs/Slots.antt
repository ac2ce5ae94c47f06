-- Values by position.
use Rattle.std.specs.Prelude.{ℕ, ◌<◌, List, [], ◌∷◌, IsSome}
use Rattle.ballots.specs.declared.value.Value.{Value}
use Rattle.ballots.specs.declared.value.Pair.{Pair}
use Rattle.ballots.specs.Values.{IsPosition}
use Rattle.position_map.specs.Slots.{Slot, filled, value_at}

-- positions are above p, and rise
abbrev pub Rise : {A : Type 0} → (p : ℕ) → List (ℕ × A) → Type 0
Rise p [] = Unit {0}
Rise p (e ∷ es) = (p < e.0) × Rise e.0 es

-- entries as pairs
abbrev pub pairs_of : List (ℕ × Value) → List Pair
pairs_of [] = []
pairs_of (e ∷ es) = record { position = e.0; value = e.1 } ∷ pairs_of es

-- values stand at no other positions
abbrev pub AreWithin : List (Slot Value) → Type 0
AreWithin slots = (p : ℕ) → IsSome (value_at p (filled slots)) → IsPosition p
