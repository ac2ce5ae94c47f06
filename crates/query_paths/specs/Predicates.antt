-- What a predicate says of a position.
use Rattle.std.specs.Prelude.{ℕ, ◌-◌, ◌==◌, Bool, if◌then◌else◌, List, [], ◌∷◌, length, Option, Some, None, slice_get}
use Rattle.values.specs.declared.atom.Item.{Item}
use Rattle.query_meaning.specs.Running.{M, ◌>>=◌, come_to, pure, turns, work}
use Rattle.query_meaning.specs.Environment.{Environment}
use Rattle.query_meaning.specs.Sequences.{Meaning}
use Rattle.query_meaning.specs.Paths.{selects}

-- whether the value of a predicate selects a position
abbrev pub selected : (position : ℕ) → Meaning → Environment → M Bool
selected i m env = m env >>= (λ items. come_to (selects i items))

-- what may be there, as a list
abbrev pub option_list : Option Item → List Item
option_list None = []
option_list (Some x) = x ∷ []

-- the item at the position that a number is
abbrev pub at_position : (number : ℕ) → List Item → Option Item
at_position n items = if n == 0 then None else slice_get items (n - 1)

-- what the turns of a written number come to: each item takes a turn, a unit of work for the number and one for what it gives
abbrev pub numbered : (number : ℕ) → List Item → M (List Item)
numbered n items = turns (length items) >>= (λ _. work (length items) >>= (λ _. work (length items) >>= (λ _. pure (option_list (at_position n items)))))
