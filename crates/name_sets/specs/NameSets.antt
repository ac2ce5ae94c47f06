-- Names, each once.
use Rattle.std.specs.Prelude.{ℕ, Bool, List}
use Rattle.std.specs.List.{list_any}
use Rattle.std.specs.Str.{bytes_eq}

-- whether a name is among others
abbrev pub is_among : (name : List ℕ) → List (List ℕ) → Bool
is_among x names = list_any (bytes_eq x) names
