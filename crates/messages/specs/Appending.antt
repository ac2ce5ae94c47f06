-- Bytes that are put after others.
use Rattle.std.specs.Prelude.{◌≡◌, ℕ, List, ◌++◌}

-- the new bytes begin with the old ones
abbrev pub Extends : (old new : List ℕ) → Type 0
Extends old new = (more : List ℕ) × (new ≡ old ++ more)
