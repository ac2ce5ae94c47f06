-- Lines as they are written.
use Rattle.std.specs.Prelude.{◌≡◌, ℕ, false, List, [], ◌∷◌, ◌++◌}
use Rattle.std.specs.List.{All}
use Rattle.event_files.specs.EventFiles.{is_line_feed}

-- no line feed is in it
abbrev pub IsLine : List ℕ → Type 0
IsLine line = All (λ b. is_line_feed b ≡ false) line

-- the lines, each with a line feed after it
abbrev pub bytes_of : List (List ℕ) → List ℕ
bytes_of [] = []
bytes_of (line ∷ lines) = line ++ 10 ∷ bytes_of lines

-- each of them is a line
abbrev pub AreLines : List (List ℕ) → Type 0
AreLines [] = Unit {0}
AreLines (line ∷ lines) = IsLine line × AreLines lines
