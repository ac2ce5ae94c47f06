-- The rule of the book: its first word is how many entries the list has. A book has two words, of which the second stays 0.
use Rattle.std.specs.Prelude.{ℕ, ◌≡◌, true, List, [], ◌∷◌, ◌++◌, length}
use Rattle.logbook.specs.Pages.{Cell, Step, View, Book, Named}

abbrev pub cells_of : {E : Type 0} → List E → List Cell
cells_of log = (length log, true) ∷ (0, true) ∷ []

abbrev pub IsCounted : {E : Type 0} → List Cell → List E → Type 0
IsCounted cells log = cells ≡ cells_of log

abbrev pub first_word : Book → Named
first_word b = record { tracked = true; key = 0; book = b }

-- where the word was as expected, the entry stands behind all that had been seen
abbrev pub IsAdded : {E : Type 0} → Step E → View E ℕ → ℕ → View E ℕ → Type 0
IsAdded s v found w = found ≡ s.old → w.0 ≡ v.0 ++ s.ask ∷ []
