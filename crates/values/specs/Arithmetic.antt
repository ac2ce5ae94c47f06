-- Arithmetic on integers (XQuery 1.0, section 3.4; Functions and Operators, section 6.2).
use Rattle.std.specs.Prelude.{◌^◌, ◌-◌, ℤ, pos, neg_ℤ, ◌+ℤ◌, ◌-ℤ◌, ◌*ℤ◌, int_le, int_div, int_rem, Bool, ◌&&◌, if◌then◌else◌, List, [], ◌∷◌, Option, Some, None, Result, Ok, Err}
use Rattle.fault_codes.specs.declared.code.Code.{Code}
use Rattle.fault_codes.specs.declared.code.Code.TheVariants.{XPTY0004, FOAR0001, FOAR0002, FORG0001}
use Rattle.values.specs.declared.atom.Atom.{Atom}
use Rattle.values.specs.declared.atom.Atom.TheVariants.{String, Boolean, Untyped, Integer}
use Rattle.values.specs.declared.operators.Operator.{Operator}
use Rattle.values.specs.declared.operators.Operator.TheVariants as o
use Rattle.values.specs.Readings.{integer_of}
use Rattle.values.specs.Atoms.{◌>>=◌, or_fault, is_zero}

-- the integers that there are: 64 bits with a sign (our own choice)
abbrev pub is_in_range : ℤ → Bool
is_in_range z = int_le (neg_ℤ (pos (2 ^ 63))) z && int_le z (pos (2 ^ 63 - 1))

-- an operand as an integer: untyped is read as one (our own choice in place of a double)
abbrev pub operand : Atom → Result ℤ Code
operand (Integer z) = Ok z
operand (Untyped text) = or_fault FORG0001 (integer_of text)
operand (String text) = Err XPTY0004
operand (Boolean b) = Err XPTY0004

-- Both operands: more than one value is no operand, which is judged first; then an empty one, which makes the result empty; then type and reading, from the left.
abbrev pub operands : List Atom → List Atom → Result (Option (ℤ × ℤ)) Code
operands (a ∷ b ∷ rest) ys = Err XPTY0004
operands [] (c ∷ d ∷ rest) = Err XPTY0004
operands (a ∷ []) (c ∷ d ∷ rest) = Err XPTY0004
operands [] [] = Ok None
operands [] (c ∷ []) = Ok None
operands (a ∷ []) [] = Ok None
operands (a ∷ []) (c ∷ []) = do
  x ← operand a
  y ← operand c
  Ok (Some (x, y))

-- a result that is in range
abbrev pub in_range : ℤ → Result ℤ Code
in_range z = if is_in_range z then Ok z else Err FOAR0002

-- a divisor that isn't zero
abbrev pub divided : (ℤ → ℤ → ℤ) → ℤ → ℤ → Result ℤ Code
divided f x y = if is_zero y then Err FOAR0001 else in_range (f x y)

-- the result of an operator; `idiv` cuts toward zero, and what `mod` leaves has the dividend's sign
abbrev pub calculated : Operator → ℤ → ℤ → Result ℤ Code
calculated o.Add x y = in_range (x +ℤ y)
calculated o.Subtract x y = in_range (x -ℤ y)
calculated o.Multiply x y = in_range (x *ℤ y)
calculated o.IntegerDivide x y = divided int_div x y
calculated o.Modulo x y = divided int_rem x y

abbrev pub calculated_if : Operator → Option (ℤ × ℤ) → Result (Option ℤ) Code
calculated_if op None = Ok None
calculated_if op (Some p) = do
  z ← calculated op p.0 p.1
  Ok (Some z)

-- an operator between two sequences of atomic values
abbrev pub arithmetic : Operator → List Atom → List Atom → Result (Option ℤ) Code
arithmetic op xs ys = operands xs ys >>= calculated_if op
