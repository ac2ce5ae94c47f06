-- What a store has for its readers, and how that changes.
use Rattle.std.specs.Prelude.{◌≡◌, List, [], ◌∷◌, ◌++◌}
use Rattle.ballots.specs.declared.value.Value.{Value}
use Rattle.sight.specs.Sights.{IsSight}

-- The values over which readers are answered, and those that wait to be shown, each in the order in which they were handed on.
pub record Store : Type 0 where
  pub published : List Value
  pub pending : List Value

-- all values that were handed on
abbrev pub handed_on : Store → List Value
handed_on s = s.published ++ s.pending

-- one value more waits, and readers are shown what they were
abbrev pub HandsOn : Value → (old new : Store) → Type 0
HandsOn value old new = (new.published ≡ old.published) × (new.pending ≡ old.pending ++ value ∷ [])

-- readers are shown what they were, and more may wait
abbrev pub Keeps : (old new : Store) → Type 0
Keeps old new = (new.published ≡ old.published) × IsSight old.pending new.pending

-- all that waited is shown, and nothing waits
abbrev pub Publishes : (old new : Store) → Type 0
Publishes old new = (new.published ≡ handed_on old) × (new.pending ≡ [])
