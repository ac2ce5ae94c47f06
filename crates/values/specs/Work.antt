-- The work that texts take (our own measure): one unit for each 16 bytes.
use Rattle.std.specs.Prelude.{ℕ, ◌/◌, List, [], length}
use Rattle.values.specs.declared.atom.Atom.{Atom}
use Rattle.values.specs.declared.atom.Atom.TheVariants.{String, Untyped}

abbrev pub text_work : List ℕ → ℕ
text_work text = length text / 16

-- the text of a value, empty where it has none
abbrev pub text_of : Atom → List ℕ
text_of (String text) = text
text_of (Untyped text) = text
text_of _ = []
