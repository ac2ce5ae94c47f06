-- The lines of bytes are those that were written.
use Rattle.std.proofs.Common.{◌≡◌, ℕ, ◌<◌, List, [], ◌∷◌, ◌++◌, length, refl, ap, ◌∙◌, append_assoc}
use Rattle.std.proofs.lemmas.List.Splits.{slice_split_at, slice_split_none}
use Rattle.event_files.specs.EventFiles.{is_line_feed, lines_of}
use Rattle.event_files.specs.Spelt.{AreLines, IsLine, bytes_of}
use Rattle.event_files.proofs.FirstLines.{ended, last, lines_of-none}

-- a line with a line feed after it stands first
pub lines_of-ended : (line rest : List ℕ) → IsLine line → lines_of (line ++ 10 ∷ rest) ≡ line ∷ lines_of rest
lines_of-ended line rest h = ended (line ++ 10 ∷ rest) line rest (slice_split_at is_line_feed line 10 rest h refl)

-- lines that all have a line feed after them
pub lines_of-bytes_of : (lines : List (List ℕ)) → AreLines lines → lines_of (bytes_of lines) ≡ lines
lines_of-bytes_of [] h = lines_of-none [] refl
lines_of-bytes_of (line ∷ lines) h = lines_of-ended line (bytes_of lines) h.0 ∙ ap (λ (l : List (List ℕ)). line ∷ l) (lines_of-bytes_of lines h.1)

-- and one more that has none
pub lines_of-last : (lines : List (List ℕ)) (line : List ℕ) → AreLines lines → IsLine line → 0 < length line → lines_of (bytes_of lines ++ line) ≡ lines ++ line ∷ []
lines_of-last [] line h k some = last line [] (slice_split_none is_line_feed line k) some refl ∙ ap (λ (l : List (List ℕ)). line ∷ l) (lines_of-none [] refl)
lines_of-last (l ∷ ls) line h k some =
    ap lines_of (append_assoc l (10 ∷ bytes_of ls) line) ∙ lines_of-ended l (bytes_of ls ++ line) h.0 ∙ ap (λ (m : List (List ℕ)). l ∷ m) (lines_of-last ls line h.1 k some)
