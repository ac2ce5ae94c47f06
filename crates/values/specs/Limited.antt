-- Texts of at most so many bytes, to which others are added at the end.
use Rattle.std.specs.Prelude.{ℕ, Bool, true, false, if◌then◌else◌, nat_lt, List, ◌++◌, length, Option, Some, None, option_and_then, refl}
use Rattle.std.specs.Coded.{Coded, code_by, coded×, coded_ℕ, coded_list, coded_option}

-- the text so far, or none where it would be longer than the most bytes that it may have
pub record LimitedTerm : Type 0 where
  pub most : ℕ
  pub text : Option (List ℕ)

abbrev pub limited_code : Coded LimitedTerm
limited_code = code_by (ℕ × Option (List ℕ)) (coded× coded_ℕ (coded_option (coded_list coded_ℕ))) (λ l. (l.most, l.text)) (λ p. record { most = p.0; text = p.1 }) (λ _. refl)

-- a text, if it is no longer than that
abbrev pub within : ℕ → List ℕ → Option (List ℕ)
within most t = if nat_lt most (length t) then None else Some t

-- a text added at the end of the text so far
unfoldable pub added : LimitedTerm → List ℕ → LimitedTerm
added l t = record l { text = option_and_then (λ s. within l.most (s ++ t)) l.text }

abbrev pub is_none : {T : Type 0} → Option T → Bool
is_none None = true
is_none (Some x) = false

-- the text of those bytes, unless it is too long
abbrev pub text_of : Bool → List ℕ → Option (List ℕ)
text_of true t = None
text_of false t = Some t
