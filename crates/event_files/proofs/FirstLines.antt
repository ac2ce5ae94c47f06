-- The lines of bytes, one after the other, and their texts.
use Rattle.std.proofs.Common.{◌≡◌, ℕ, ◌+◌, ◌<◌, ◌≤◌, Bool, true, false, ◌&&◌, List, [], ◌∷◌, length, sym, ap, refl, cond, ◌∙◌, ⊎_elim, arith, Bor, MatchResult, Result, Ok, Err, Some, None}
use Rattle.std.specs.List.{after_first, before_first, position_or_len, slice_split, onto_first}
use Rattle.std.specs.Option.{option_copied}
use Rattle.std.specs.Result.{result_ok}
use Rattle.std.specs.Str.{IsUtf8, is_utf8}
use Rattle.std.proofs.lemmas.Bool.{cases_lt, cases_Bool}
use Rattle.std.proofs.lemmas.List.{take_all, drop_all}
use Rattle.std.proofs.lemmas.List.Elements.{All-from_get_or}
use Rattle.std.proofs.lemmas.List.Splits.{slice_split_first, slice_split_none}
use Rattle.std.proofs.lemmas.List.Sums.{fails_before_first}
use Rattle.std.proofs.lemmas.Str.{IsUtf8-from_is_utf8, is_utf8-from_IsUtf8}
use Rattle.event_files.specs.EventFiles.{is_empty, is_line_feed, lines_of}
use Rattle.event_files.specs.Forms.{utf8_of}

-- a split has a first part
some_part : (p : ℕ → Bool) (bytes : List ℕ) → is_empty (slice_split p bytes) ≡ false
some_part p [] = refl
some_part p (b ∷ bytes) = one (p b) (slice_split p bytes) where
  one : (t : Bool) (parts : List (List ℕ)) → is_empty (cond t ([] ∷ parts) (onto_first b parts)) ≡ false
  one true parts = refl
  one false [] = refl
  one false (q ∷ parts) = refl

and-false : (b : Bool) → b && false ≡ false
and-false true = refl
and-false false = refl

-- a first line that ends with a line feed
pub ended : (bytes first rest : List ℕ) → slice_split is_line_feed bytes ≡ first ∷ slice_split is_line_feed rest → lines_of bytes ≡ first ∷ lines_of rest
unfolding lines_of
ended bytes first rest e = rw (e, some_part is_line_feed rest, and-false (is_empty first)) refl

-- a last line, which does not
pub last : (bytes rest : List ℕ) → slice_split is_line_feed bytes ≡ bytes ∷ [] → 0 < length bytes → rest ≡ [] → lines_of bytes ≡ bytes ∷ lines_of rest
unfolding lines_of
last [] rest e some past = absurd (omega (arith, some))
last (b ∷ bytes) rest e some past = rw (e, past) refl

-- bytes without a line feed are one line
one_line : (bytes : List ℕ) → length bytes ≤ position_or_len is_line_feed bytes → slice_split is_line_feed bytes ≡ bytes ∷ []
one_line bytes h = slice_split_none is_line_feed bytes (All-from_get_or (λ x. is_line_feed x ≡ false) bytes 0 (λ k lt. fails_before_first is_line_feed bytes k 0 (omega arith)))

-- the first line of bytes, and then those of the rest
pub lines_of-step : (bytes : List ℕ) → 0 < length bytes → lines_of bytes ≡ before_first is_line_feed bytes ∷ lines_of (after_first is_line_feed bytes)
lines_of-step bytes some =
    ⊎_elim (λ inside. ended bytes (before_first is_line_feed bytes) (after_first is_line_feed bytes) (slice_split_first is_line_feed bytes 0 inside))
    (λ past.
    let whole = take_all (position_or_len is_line_feed bytes) bytes past in
    let nothing = drop_all (position_or_len is_line_feed bytes + 1) bytes (omega arith) in
    last bytes (after_first is_line_feed bytes) (one_line bytes past) some nothing ∙ ap (λ (l : List ℕ). l ∷ lines_of (after_first is_line_feed bytes)) (sym whole))
    (cases_lt (position_or_len is_line_feed bytes) (length bytes))

-- no bytes are no line
pub lines_of-none : (bytes : List ℕ) → length bytes ≡ 0 → lines_of bytes ≡ []
unfolding lines_of
lines_of-none [] e = refl
lines_of-none (b ∷ bytes) e = cc

-- bytes in UTF-8, and others
utf8_of-utf8 : (bytes : List ℕ) → IsUtf8 bytes → utf8_of bytes ≡ Some bytes
unfolding utf8_of
utf8_of-utf8 bytes h = rw (is_utf8-from_IsUtf8 bytes h) refl

utf8_of-other : (bytes : List ℕ) → (IsUtf8 bytes → ⊥) → utf8_of bytes ≡ None
unfolding utf8_of
utf8_of-other bytes h =
    ⊎_elim (λ e. absurd (h (IsUtf8-from_is_utf8 bytes e))) (λ e. rw e refl) (cases_Bool (is_utf8 bytes))

-- what `from_utf8` gives
pub utf8_of-from : {E : Type 0} (X : E → Type 0) (bytes : List ℕ) (r : Result (Bor (List ℕ)) E) → MatchResult r (λ s. (s.now ≡ bytes) × IsUtf8 bytes) (λ e. (IsUtf8 bytes → ⊥) × X e) → option_copied (result_ok r) ≡ utf8_of bytes
utf8_of-from X bytes (Ok s) h = ap (λ (t : List ℕ). Some t) h.0 ∙ sym (utf8_of-utf8 bytes h.1)
utf8_of-from X bytes (Err e) h = sym (utf8_of-other bytes h.0)
