-- What parts of lines say.
use Rattle.std.specs.Prelude.{ℕ, ◌+◌, ◌*◌, ◌-◌, Bool, ◌&&◌, nat_eq, nat_lt, nat_le, ◌==◌, if◌then◌else◌, List, length, drop, fold, ◌^◌, Option, Some, None}
use Rattle.std.specs.List.{list_all, starts_with, before_first, after_first}
use Rattle.std.specs.Option.{option_and_then}
use Rattle.document_names.specs.Characters.{is_digit}
use Rattle.ballots.specs.Terms.{Request, most_text}

-- the number that digits stand for
abbrev pub digits_value : List ℕ → ℕ
digits_value = fold (λ n b. 10 * n + (b - 48)) 0

-- a number below a limit, in decimal and without a sign
abbrev pub number_below : ℕ → List ℕ → Option ℕ
number_below limit bs = if nat_lt 0 (length bs) && list_all is_digit bs && nat_lt (digits_value bs) limit then Some (digits_value bs) else None

-- what stands between two parts
abbrev pub is_space : ℕ → Bool
is_space b = b == 32

-- 1 to 4,096 bytes
abbrev pub has_text_length : List ℕ → Bool
has_text_length text = nat_lt 0 (length text) && nat_le (length text) most_text

-- what stands after that beginning, of a text that begins so
unfoldable pub text_after : List ℕ → List ℕ → Option (List ℕ)
text_after beginning text = if starts_with nat_eq text beginning then Some (drop (length beginning) text) else None

infixl 10 ◌>>=◌
-- what the function makes of the value, where there is one
abbrev pub ◌>>=◌ : {A B : Type 0} → Option A → (A → Option B) → Option B
o >>= f = option_and_then f o

-- a request at that level, if its text has 1 to 4,096 bytes
abbrev pub request_with : (level client number : ℕ) → List ℕ → Option Request
request_with level client number text =
    if has_text_length text then Some (record { client = client; number = number; level = level; text = text }) else None

-- `CLIENT NUMBER TEXT`
unfoldable pub request_of : (level : ℕ) → List ℕ → Option Request
request_of level parts = do
  client ← number_below (2 ^ 32) (before_first is_space parts)
  number ← number_below (2 ^ 64) (before_first is_space (after_first is_space parts))
  request_with level client number (after_first is_space (after_first is_space parts))
