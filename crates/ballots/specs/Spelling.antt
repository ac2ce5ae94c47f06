-- The spelling of values in bytes (our own), and what bytes read as, from the left: each field is checked as soon as it is read.
use Rattle.std.specs.Prelude.{◌≡◌, ℕ, ◌<◌, ◌≤◌, ◌^◌, Bool, true, nat_le, ◌==◌, if◌then◌else◌, List, [], ◌∷◌, ◌++◌, length, take, drop, slice_index, ◌-◌}
use Rattle.std.specs.Str.{is_utf8}
use Rattle.byteorder.specs.Endian.{big_bytes, big_number}
use Rattle.ballots.specs.Terms.{Request, is_level, most_text}
use Rattle.ballots.specs.declared.value.Value.{Value}
use Rattle.ballots.specs.declared.value.Value.TheVariants.{NoOp, Request as Of}
use Rattle.ballots.specs.declared.spelling.SpellingFault.{SpellingFault}
use Rattle.ballots.specs.declared.spelling.SpellingFault.TheVariants.{Short, Number, NotUtf8}

-- numbers are big-endian: a client has 4 bytes, its number for the request 8, the level 1, the length of the text 2
abbrev pub request_spelling : Request → List ℕ
request_spelling r = big_bytes 4 r.client ++ big_bytes 8 r.number ++ r.level ∷ big_bytes 2 (length r.text) ++ r.text

-- 0 for the no-op, or 1 and the request
abbrev pub value_spelling : Value → List ℕ
value_spelling NoOp = 0 ∷ []
value_spelling (Of r) = 1 ∷ request_spelling r

-- what bytes read as: something and the bytes after it, or the first fault
pub data Read (A : Type 0) : Type 0 where
  Gives : (value : A) (rest : List ℕ) → Read A
  Fails : (fault : SpellingFault) → Read A

-- the function on what was read and the bytes after it
abbrev pub on_read : {A B : Type 0} → Read A → (A → List ℕ → Read B) → Read B
on_read (Gives a rest) g = g a rest
on_read (Fails fault) g = Fails fault

infixl 10 ◌>>=◌
-- the one, then the other on the bytes after it
abbrev pub ◌>>=◌ : {A B : Type 0} → (List ℕ → Read A) → (A → List ℕ → Read B) → List ℕ → Read B
(f >>= g) bytes = on_read (f bytes) g

abbrev pub pure : {A : Type 0} → A → List ℕ → Read A
pure a bytes = Gives a bytes

abbrev pub fails : {A : Type 0} → SpellingFault → List ℕ → Read A
fails fault bytes = Fails fault

-- so many bytes
abbrev pub bytes_read : (n : ℕ) → List ℕ → Read (List ℕ)
bytes_read n bytes = if nat_le n (length bytes) then Gives (take n bytes) (drop n bytes) else Fails Short

-- the number in so many bytes
abbrev pub number_read : (n : ℕ) → List ℕ → Read ℕ
number_read n bytes = if nat_le n (length bytes) then Gives (big_number n bytes) (drop n bytes) else Fails Short

-- the test holds, or a number is out of range
abbrev pub check : Bool → List ℕ → Read (Unit {0})
check b bytes = if b then Gives tt bytes else Fails Number

-- bytes that are UTF-8
abbrev pub check_utf8 : List ℕ → List ℕ → Read (Unit {0})
check_utf8 text bytes = if is_utf8 text then Gives tt bytes else Fails NotUtf8

-- a text: its length, at most 4,096, and its bytes
abbrev pub text_read : List ℕ → Read (List ℕ)
text_read = do
  n ← number_read 2
  _ ← check (nat_le n most_text)
  text ← bytes_read n
  _ ← check_utf8 text
  pure text

abbrev pub request_read : List ℕ → Read Request
request_read = do
  client ← number_read 4
  number ← number_read 8
  level ← number_read 1
  _ ← check (is_level level)
  text ← text_read
  pure (record { client = client; number = number; level = level; text = text })

-- after the first byte
abbrev pub value_after : ℕ → List ℕ → Read Value
value_after tag bytes =
    if tag == 0 then Gives NoOp bytes
    else (if tag == 1 then (request_read >>= (λ r. pure (Of r))) bytes else Fails Number)

abbrev pub value_read : List ℕ → Read Value
value_read = number_read 1 >>= value_after

-- the numbers of a request fit their fields, its level is known, and its text is UTF-8 and not too long
pub record IsRequest (r : Request) : Type 0 where
  pub client : r.client < 2 ^ 32
  pub number : r.number < 2 ^ 64
  pub level : is_level r.level ≡ true
  pub text : length r.text ≤ most_text
  pub utf8 : is_utf8 r.text ≡ true

abbrev pub IsValue : Value → Type 0
IsValue NoOp = Unit {0}
IsValue (Of r) = IsRequest r

-- the bytes are what is left of others after some of them
abbrev pub IsAfter : (all rest : List ℕ) → Type 0
IsAfter all rest = (length rest ≤ length all) × (rest ≡ drop (length all - length rest) all)

-- numbers of one byte each
abbrev pub AreBytes : List ℕ → Type 0
AreBytes bytes = (i : ℕ) → slice_index bytes i < 256
