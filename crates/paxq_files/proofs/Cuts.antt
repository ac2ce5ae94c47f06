-- The lines that say something, one after the other.
use Rattle.std.proofs.Common.{◌≡◌, ℕ, ◌+◌, ◌<◌, ◌≤◌, Bool, false, cond, List, [], ◌∷◌, length, eqb, sym, ap, ◌∙◌, ⊎_elim, arith}
use Rattle.std.specs.List.{after_first, before_first, position_or_len, slice_split}
use Rattle.std.proofs.lemmas.Bool.{cases_lt}
use Rattle.std.proofs.lemmas.List.{take_all, drop_all, length-drop}
use Rattle.std.proofs.lemmas.List.Elements.{All-from_get_or}
use Rattle.std.proofs.lemmas.List.Splits.{slice_split_first, slice_split_none}
use Rattle.std.proofs.lemmas.List.Sums.{fails_before_first}
use Rattle.paxq_files.specs.Lines.{lines_after}
use Rattle.paxq_files.specs.Script.{says_something}

-- a line feed
abbrev ends_line : ℕ → Bool
ends_line b = eqb b 10

-- the lines, where the first ends with a line feed
many : (n : ℕ) (text first rest : List ℕ) → slice_split ends_line text ≡ first ∷ slice_split ends_line rest
    → lines_after n text ≡ cond (says_something (0, first)) ((n + 1, first) ∷ lines_after (n + 1) rest) (lines_after (n + 1) rest)
unfolding lines_after
many n text first rest e = rw e

-- the lines, where nothing stands after the first
one : (n : ℕ) (text first rest : List ℕ) → slice_split ends_line text ≡ first ∷ [] → rest ≡ []
    → lines_after n text ≡ cond (says_something (0, first)) ((n + 1, first) ∷ lines_after (n + 1) rest) (lines_after (n + 1) rest)
unfolding lines_after
one n text first rest e past = rw (e, past)

-- a text without a line feed is one line
one_line : (text : List ℕ) → length text ≤ position_or_len ends_line text → slice_split ends_line text ≡ text ∷ []
one_line text h = slice_split_none ends_line text (All-from_get_or (λ x. ends_line x ≡ false) text 0 (λ k lt. fails_before_first ends_line text k 0 (omega arith)))

-- the first line of a text, where it says something, and then those of the rest
pub lines_after-step : (n : ℕ) (text : List ℕ)
    → lines_after n text
    ≡ cond (says_something (0, before_first ends_line text)) ((n + 1, before_first ends_line text) ∷ lines_after (n + 1) (after_first ends_line text))
    (lines_after (n + 1) (after_first ends_line text))
lines_after-step n text =
    ⊎_elim (λ inside. many n text (before_first ends_line text) (after_first ends_line text) (slice_split_first ends_line text 0 inside))
    (λ past.
    let whole = take_all (position_or_len ends_line text) text past in
    let nothing = drop_all (position_or_len ends_line text + 1) text (omega arith) in
    one n text (before_first ends_line text) (after_first ends_line text) (one_line text past ∙ ap (λ (l : List ℕ). l ∷ []) (sym whole)) nothing)
    (cases_lt (position_or_len ends_line text) (length text))

-- what stands after the first mark is shorter than a text that is not empty
pub length-after_first-lt : (p : ℕ → Bool) (text : List ℕ) → 0 < length text → length (after_first p text) < length text
length-after_first-lt p text some = omega (arith, length-drop (position_or_len p text + 1) text)
