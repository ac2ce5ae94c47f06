-- Arithmetic on one value on each side gives a number or a fault, and never nothing.
use Rattle.std.proofs.Common.{◌≡◌, ◌∙◌, ℤ, List, [], ◌∷◌, Option, Some, None, Result, Ok, Err, refl, ap, sym}
use Rattle.fault_codes.specs.declared.code.Code.{Code}
use Rattle.values.specs.Arithmetic.{arithmetic, calculated, calculated_if, operand}
use Rattle.values.specs.Atoms.{◌>>=◌}
use Rattle.values.specs.declared.atom.Atom.{Atom}
use Rattle.values.specs.declared.operators.Operator.{Operator}
use Rattle.item_expressions.specs.Numbers.{number_of}

abbrev pub some : Result ℤ Code → Result (Option ℤ) Code
some (Ok z) = Ok (Some z)
some (Err code) = Err code

module _ (op : Operator) (a b : Atom) where
  pub number_is : arithmetic op (a ∷ []) (b ∷ []) ≡ some (number_of op a b)
  number_is = first (operand a)
    where
      third : (o : Result ℤ Code) → (o >>= (λ z. Ok (Some z))) ≡ some o
      third (Ok z) = refl
      third (Err code) = refl

      second : (x : ℤ) (o : Result ℤ Code) → (o >>= (λ y. Ok (Some (x, y)))) >>= calculated_if op ≡ some (o >>= (λ y. calculated op x y))
      second x (Ok y) = third (calculated op x y)
      second x (Err code) = refl

      first : (o : Result ℤ Code) → (o >>= (λ x. operand b >>= (λ y. Ok (Some (x, y))))) >>= calculated_if op ≡ some (o >>= (λ x. operand b >>= (λ y. calculated op x y)))
      first (Ok x) = second x (operand b)
      first (Err code) = refl

  pub number_found : (z : ℤ) → arithmetic op (a ∷ []) (b ∷ []) ≡ Ok (Some z) → number_of op a b ≡ Ok z
  number_found z h = by (number_of op a b) (sym number_is ∙ h)
    where
      by : (o : Result ℤ Code) → some o ≡ Ok (Some z) → o ≡ Ok z
      by (Ok y) e = cc
      by (Err code) e = absurd cc

  pub number_fails : (code : Code) → arithmetic op (a ∷ []) (b ∷ []) ≡ Err code → number_of op a b ≡ Err code
  number_fails code h = by (number_of op a b) (sym number_is ∙ h)
    where
      by : (o : Result ℤ Code) → some o ≡ Err code → o ≡ Err code
      by (Ok y) e = absurd cc
      by (Err found) e = cc

  pub never_none : arithmetic op (a ∷ []) (b ∷ []) ≡ Ok None → ⊥
  never_none h = by (number_of op a b) (sym number_is ∙ h)
    where
      by : (o : Result ℤ Code) → some o ≡ Ok None → ⊥
      by (Ok y) e = cc
      by (Err code) e = cc

-- over lists that are one value each
pub of_lists : (op : Operator) (a b : Atom) (xs ys : List Atom) (r : Result (Option ℤ) Code) → xs ≡ a ∷ [] → ys ≡ b ∷ [] → r ≡ arithmetic op xs ys → arithmetic op (a ∷ []) (b ∷ []) ≡ r
of_lists op a b xs ys r left right h = sym (h ∙ ap (λ zs. arithmetic op zs ys) left ∙ ap (arithmetic op (a ∷ [])) right)
