-- What tuples share that differ in the item of the last variable.
use Rattle.std.specs.Prelude.{◌≡◌, ℕ, List}
use Rattle.query_meaning.specs.Environment.{Environment}
use Rattle.sorted_tuples.specs.declared.place.Binding.{Binding}

-- it binds that variable after those of an environment
abbrev pub Binds : (variable : List ℕ) → Environment → Binding → Type 0
Binds variable env b = (b.variable ≡ variable) × (b.others ≡ env)
