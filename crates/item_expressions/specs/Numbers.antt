-- Arithmetic on one value on each side (XQuery 1.0, section 3.4).
use Rattle.std.specs.Prelude.{ℤ, Result}
use Rattle.fault_codes.specs.declared.code.Code.{Code}
use Rattle.values.specs.Arithmetic.{calculated, operand}
use Rattle.values.specs.Atoms.{◌>>=◌}
use Rattle.values.specs.declared.atom.Atom.{Atom}
use Rattle.values.specs.declared.operators.Operator.{Operator}

-- what an operator makes of them: the left one is judged first
abbrev pub number_of : Operator → Atom → Atom → Result ℤ Code
number_of op a b = do
  x ← operand a
  y ← operand b
  calculated op x y
