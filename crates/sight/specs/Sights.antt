-- What was seen of a list that only grows.
use Rattle.std.specs.Prelude.{List}
use mathlib.Core.List.{IsPrefix}

-- A sight of a list is a beginning of it: its first entries, in their order, none left out.
abbrev pub IsSight : {E : Type 0} → (seen all : List E) → Type 0
IsSight seen all = IsPrefix seen all
