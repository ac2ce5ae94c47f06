-- The lines that say something, of a text that stands after other lines.
use Rattle.std.specs.Prelude.{ℕ, ◌+◌, ◌==◌, List, filter}
use Rattle.std.specs.List.{slice_split, enumerate_from}
use Rattle.paxq_files.specs.Script.{says_something}

-- the lines of a text before which so many stand, with their numbers
unfoldable pub lines_after : ℕ → List ℕ → List (ℕ × List ℕ)
lines_after before text = filter says_something (enumerate_from (before + 1) (slice_split (λ b. b == 10) text))
