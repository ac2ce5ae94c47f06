-- Plans of changes to rows, made one after the other.
use Rattle.std.specs.Prelude.{ℕ, ◌+◌, cond, List, [], ◌∷◌, Option, Some, None, nat_eq}
use Rattle.node_table.specs.declared.table.Row.{Row}
use Rattle.node_table.specs.declared.exchange.Change.{Change}

-- the row of each node, with o at k
abbrev pub changed : ℕ → Option Row → (ℕ → Option Row) → ℕ → Option Row
changed k o f i = cond (nat_eq k i) o (f i)

-- the row of each node after changes, one after the other
abbrev pub over : List Change → (ℕ → Option Row) → ℕ → Option Row
over [] f = f
over (p ∷ ps) f = over ps (changed p.id p.row f)

-- what stood in their places before each of them
abbrev pub replaced : List Change → (ℕ → Option Row) → List Change
replaced [] f = []
replaced (p ∷ ps) f = record { id = p.id; row = f p.id } ∷ replaced ps (changed p.id p.row f)

-- how many places a change may need
abbrev pub places : Option Row → ℕ
places None = 0
places (Some r) = 1

abbrev pub all_places : List Change → ℕ
all_places [] = 0
all_places (p ∷ ps) = places p.row + all_places ps
