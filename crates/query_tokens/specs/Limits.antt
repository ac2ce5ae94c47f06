-- The limit of numbers (our own): they are integers of 64 bits.
use Rattle.std.specs.Prelude.{ℕ}

abbrev pub max_integer : ℕ
max_integer = 9223372036854775807
