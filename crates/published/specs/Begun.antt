-- The rule of what is shown.
use Rattle.std.specs.Prelude.{◌≡◌, ℕ, List}
use mathlib.Core.Option.{some}
use lib.ListN.{get_elem?}
use Rattle.sight.specs.Sights.{IsSight}

-- each reader's place knows a beginning of the list
abbrev pub AllBegin : {V : Type 0} → List V → List (List V) → Type 0
AllBegin {V} all known = (place : ℕ) (seen : List V) → get_elem? known place ≡ some seen → IsSight seen all
