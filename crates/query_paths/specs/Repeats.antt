-- Nodes without repeats, as they are kept.
use Rattle.std.specs.Prelude.{◌≡◌, ◌<◌, ℕ, List, All, Option, Some, None}
use Rattle.data_model.specs.Axes.{is_in}

-- where nodes are sought, the set has those that are there; where they are not, all are below the bound
abbrev pub IsSought : (nodes : List ℕ) → (bound : ℕ) → (set : Option (List ℕ)) → Type 0
IsSought nodes bound None = All (λ i. i < bound) nodes
IsSought nodes bound (Some set) = (i : ℕ) → is_in i set ≡ is_in i nodes
