-- Value comparisons and general comparisons (XQuery 1.0, sections 3.5.1 and 3.5.2).
use Rattle.std.specs.Prelude.{ℕ, suc, Bool, true, false, ◌&&◌, nat_le, if◌then◌else◌, List, [], ◌∷◌, length, map, take, Option, Some, None, Result, Ok, Err}
use Rattle.std.specs.List.{flat_map, sum}
use Rattle.std.specs.declared.cmp.Ordering.{Ordering}
use Rattle.std.specs.Ordering.{is_eq, is_ne, is_lt, is_le, is_gt, is_ge, nat_cmp, int_cmp, bool_cmp}
use Rattle.std.specs.Cmp.Lexicographic.{slice_cmp}
use Rattle.std.specs.Str.{chars}
use Rattle.fault_codes.specs.declared.code.Code.{Code}
use Rattle.fault_codes.specs.declared.code.Code.TheVariants.{XPTY0004, FORG0001, PXQ0002}
use Rattle.values.specs.declared.atom.Atom.{Atom}
use Rattle.values.specs.declared.atom.Atom.TheVariants.{String, Boolean, Untyped, Integer}
use Rattle.values.specs.declared.compare.Comparison.{Comparison}
use Rattle.values.specs.declared.compare.Comparison.TheVariants as c
use Rattle.values.specs.Readings.{integer_of, boolean_of}
use Rattle.values.specs.Atoms.{◌>>=◌, or_fault}
use Rattle.values.specs.Work.{text_of, text_work}

-- whether a comparison holds of two values in that order
abbrev pub holds : Comparison → Ordering → Bool
holds c.Equal o = is_eq o
holds c.NotEqual o = is_ne o
holds c.Less o = is_lt o
holds c.LessOrEqual o = is_le o
holds c.Greater o = is_gt o
holds c.GreaterOrEqual o = is_ge o

-- strings by code points (Functions and Operators, section 7.3.1: the one collation that there is)
abbrev pub string_cmp : List ℕ → List ℕ → Ordering
string_cmp a b = slice_cmp nat_cmp (chars a) (chars b)

-- the order of two values of one type: strings, booleans (false is less) or integers; of different types there is none
abbrev pub same_type_cmp : Atom → Atom → Option Ordering
same_type_cmp (String a) (String b) = Some (string_cmp a b)
same_type_cmp (Boolean a) (Boolean b) = Some (bool_cmp a b)
same_type_cmp (Integer a) (Integer b) = Some (int_cmp a b)
same_type_cmp _ _ = None

-- untyped is taken as a string
abbrev pub as_string : Atom → Atom
as_string (Untyped text) = String text
as_string a = a

abbrev pub if_comparable : Comparison → Option Ordering → Result Bool Code
if_comparable op None = Err XPTY0004
if_comparable op (Some o) = Ok (holds op o)

-- two values by a value comparison
abbrev pub compared : Comparison → Atom → Atom → Result Bool Code
compared op a b = if_comparable op (same_type_cmp (as_string a) (as_string b))

-- A value comparison: more than one value on a side is no operand, which is judged first; an empty side gives the empty sequence.
abbrev pub value_compared : Comparison → List Atom → List Atom → Result (Option Bool) Code
value_compared op (a ∷ b ∷ rest) ys = Err XPTY0004
value_compared op [] (c ∷ d ∷ rest) = Err XPTY0004
value_compared op (a ∷ []) (c ∷ d ∷ rest) = Err XPTY0004
value_compared op [] [] = Ok None
value_compared op [] (c ∷ []) = Ok None
value_compared op (a ∷ []) [] = Ok None
value_compared op (a ∷ []) (c ∷ []) = do
  b ← compared op a c
  Ok (Some b)

-- an untyped value read as the type of the other one: as a string beside an untyped or a string, as an integer beside an integer, as a boolean
-- beside a boolean (section 3.5.2; integers in place of doubles are our own choice)
abbrev pub read_beside : Atom → Atom → Result Atom Code
read_beside (Untyped text) (Integer z) = do
  n ← or_fault FORG0001 (integer_of text)
  Ok (Integer n)
read_beside (Untyped text) (Boolean b) = do
  t ← or_fault FORG0001 (boolean_of text)
  Ok (Boolean t)
read_beside (Untyped text) other = Ok (String text)
read_beside a other = Ok a

-- one pair of a general comparison
abbrev pub pair_compared : Comparison → Atom → Atom → Result Bool Code
pair_compared op a b = do
  x ← read_beside a b
  y ← read_beside b a
  if_comparable op (same_type_cmp x y)

-- what the pairs come to, the left value first
abbrev pub pairs_compared : Comparison → List Atom → List Atom → List (Result Bool Code)
pairs_compared op xs ys = flat_map (λ x. map (pair_compared op x) ys) xs

-- the first that is true or a fault decides; none makes it false
abbrev pub decided : List (Result Bool Code) → Result Bool Code
decided [] = Ok false
decided (Ok true ∷ rs) = Ok true
decided (Ok false ∷ rs) = decided rs
decided (Err code ∷ rs) = Err code

-- how many pairs are tried until then
abbrev pub tried : List (Result Bool Code) → ℕ
tried [] = 0
tried (Ok true ∷ rs) = 1
tried (Ok false ∷ rs) = suc (tried rs)
tried (Err code ∷ rs) = 1

-- The work of a pair is that of the shorter text, where both values have one; what is read of a value is read once, and not for each pair.
abbrev pub pair_work : Atom → Atom → ℕ
pair_work a b = if nat_le (length (text_of a)) (length (text_of b)) then text_work (text_of a) else text_work (text_of b)

abbrev pub pairs_work : List Atom → List Atom → List ℕ
pairs_work xs ys = flat_map (λ x. map (pair_work x) ys) xs

-- the work of the pairs that are tried
abbrev pub tried_work : Comparison → List Atom → List Atom → ℕ
tried_work op xs ys = sum (take (tried (pairs_compared op xs ys)) (pairs_work xs ys))

-- a general comparison, where so many turns and so much work are left: each pair that is tried takes a turn, and its work (our own limits)
abbrev pub general_compared : Comparison → List Atom → List Atom → (turns work : ℕ) → Result Bool Code
general_compared op xs ys turns work =
    if nat_le (tried (pairs_compared op xs ys)) turns && nat_le (tried_work op xs ys) work then decided (pairs_compared op xs ys) else Err PXQ0002
