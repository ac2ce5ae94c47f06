-- Keys abbreviated to a number of 64 bits each. Keys of one place in the order have one abbreviation; those of another may have the same.
use Rattle.std.specs.Prelude.{ℕ, suc, ◌*◌, ◌/◌, slice_index_or, ◌-◌, ◌^◌, ◌==◌, min, Bool, if◌then◌else◌, List, [], ◌∷◌, ◌++◌, length, take, drop, ℤ, pos, ◌+ℤ◌, unsigned_abs, Option, Some, None}
use Rattle.std.specs.Int.{w64, from_be_bytes}
use Rattle.std.specs.Str.{chars}
use Rattle.values.specs.declared.atom.Atom.{Atom}
use Rattle.values.specs.declared.atom.Atom.TheVariants as atom
use Rattle.query_grammar.specs.declared.ast.SortKey.{SortKey}
use Rattle.query_meaning.specs.Sequences.{Tuple}
use Rattle.sorted_tuples.specs.Keys.{key_at}
use lib.Utf8.{encodes}

-- the first eight bytes, as if zeros came after the last
abbrev pub eight_bytes : List ℕ → List ℕ
eight_bytes bytes = take (min (length bytes) 8) bytes ++ drop (min (length bytes) 8) (0 ∷ 0 ∷ 0 ∷ 0 ∷ 0 ∷ 0 ∷ 0 ∷ 0 ∷ [])

-- those past the first n
abbrev pub bytes_past : ℕ → List ℕ → List ℕ
bytes_past n bytes = drop (min (length bytes) n) bytes

-- of a text, by its characters: the first eight bytes of their UTF-8 past the first n, as a number
abbrev pub text_abbreviation : ℕ → List ℕ → ℕ
text_abbreviation n cs = from_be_bytes w64 (eight_bytes (bytes_past n (encodes cs)))

-- how far a number lies above the least
abbrev pub number_abbreviation : ℤ → ℕ
number_abbreviation z = unsigned_abs (z +ℤ pos (2 ^ 63))

abbrev pub abbreviation : (past : ℕ) → Option Atom → ℕ
abbreviation n None = 0
abbreviation n (Some (atom.Boolean b)) = if b then 1 else 0
abbreviation n (Some (atom.Integer z)) = number_abbreviation z
abbreviation n (Some (atom.String text)) = text_abbreviation n (chars text)
abbreviation n (Some (atom.Untyped text)) = text_abbreviation n (chars text)

-- the other way round where greater keys come first
abbrev pub directed : Bool → (past : ℕ) → Option Atom → ℕ
directed b n a = if b then 2 ^ 64 - 1 - abbreviation n a else abbreviation n a

-- that of a tuple's first key
abbrev pub first_abbreviation : {A : Type 0} → List (SortKey A) → (past : ℕ) → Tuple → ℕ
first_abbreviation [] n t = 0
first_abbreviation (key ∷ keys) n t = directed key.is_descending n (key_at 0 t.keys)

-- with how many same bytes two texts begin
abbrev pub shared : List ℕ → List ℕ → ℕ
shared [] ys = 0
shared (x ∷ xs) [] = 0
shared (x ∷ xs) (y ∷ ys) = if x == y then suc (shared xs ys) else 0

-- the bytes of a text, and none of another key
abbrev pub bytes_of : Option Atom → List ℕ
bytes_of (Some (atom.String text)) = text
bytes_of (Some (atom.Untyped text)) = text
bytes_of _ = []

-- how many of n bytes that a text begins with the first key of each tuple begins with too
abbrev pub shared_by_each : List ℕ → ℕ → List Tuple → ℕ
shared_by_each text n [] = n
shared_by_each text n (t ∷ ts) = shared_by_each text (min n (shared text (bytes_of (key_at 0 t.keys)))) ts

-- the same of a tuple's first key
abbrev pub shared_bytes : Tuple → List Tuple → ℕ
shared_bytes t ts = shared_by_each (bytes_of (key_at 0 t.keys)) (length (bytes_of (key_at 0 t.keys))) ts

-- one tuple in each eighth of so many; `d` stands where there is none
abbrev pub eighths : Tuple → List Tuple → List Tuple
eighths d ts =
    let n = length ts / 8 in
    slice_index_or ts 0 d ∷ slice_index_or ts n d ∷ slice_index_or ts (2 * n) d ∷ slice_index_or ts (3 * n) d ∷ slice_index_or ts (4 * n) d ∷ slice_index_or ts (5 * n) d ∷ slice_index_or ts (6 * n) d ∷ slice_index_or ts (7 * n) d ∷ []
