-- Signs before an operand.
use Rattle.std.proofs.Common.{◌≡◌, ℕ, suc, ℤ, neg_ℤ, List, [], ◌∷◌, ◌++◌, length, reverse, refl, sym, ap, subst, ◌∙◌, Result, Ok, Err, Option, Some, None, arith}
use Rattle.std.proofs.lemmas.List.{reverse-append}
use Rattle.fault_codes.specs.declared.code.Code.{Code}
use Rattle.values.specs.declared.atom.Atom.{Atom}
use Rattle.values.specs.declared.atom.Atom.TheVariants as atom
use Rattle.values.specs.declared.atom.Item.{Item}
use Rattle.fault_codes.specs.declared.code.Code.TheVariants.{FORG0001}
use Rattle.values.specs.Arithmetic.{operands, in_range}
use Rattle.values.specs.Atoms.{or_fault, ◌>>=◌ as both}
use Rattle.values.specs.Readings.{integer_of}
use Rattle.query_grammar.specs.declared.ast.Sign.{Sign}
use Rattle.query_grammar.specs.declared.ast.Sign.TheVariants.{Plus, Minus}
use Rattle.query_meaning.specs.Operators.{with_sign, with_signs}
use Rattle.query_meaning.specs.Running.{M, Run, and_then, ◌>>=◌, come_to, each, pure}
use Rattle.query_meaning.specs.Sequences.{one}
use Rattle.evaluation.specs.Gives.{GivesIn, Stand}
use Rattle.evaluation.proofs.Each.{grows_refl}
use Rattle.clause_walks.proofs.Values.{one_stands}

-- no sign asks for its index
pub any_index : (n m : ℕ) (signs : List Sign) (z : ℤ) (run : Run) → each with_sign n signs z run ≡ each with_sign m signs z run
any_index n m [] z run = refl
any_index n m (Plus ∷ more) z run = any_index (suc n) (suc m) more z run
any_index n m (Minus ∷ more) z run = over (in_range (neg_ℤ z)) (any_index (suc n) (suc m) more)
  where
    over : (r : Result ℤ Code) → ((y : ℤ) (run : Run) → each with_sign (suc n) more y run ≡ each with_sign (suc m) more y run)
        → and_then (come_to r run) (each with_sign (suc n) more) ≡ and_then (come_to r run) (each with_sign (suc m) more)
    over (Ok y) same = same y run
    over (Err code) same = refl

-- the innermost sign
last_sign : (signs before : List Sign) (sign : Sign) (z : ℤ) (run : Run) → signs ≡ before ++ sign ∷ []
    → each with_sign 0 (reverse signs) z run ≡ and_then (with_sign 0 z sign run) (each with_sign 1 (reverse before))
last_sign signs before sign z run is = ap (λ ss. each with_sign 0 (reverse ss) z run) is ∙ ap (λ ss. each with_sign 0 ss z run) (reverse-append before (sign ∷ []))

pub goes_on : (signs before : List Sign) (sign : Sign) (z y : ℤ) (run : Run) (all : Result (ℤ × Run) Code) → signs ≡ before ++ sign ∷ []
    → ((n : ℕ) (run : Run) → come_to (Ok y) run ≡ with_sign n z sign run) → each with_sign 0 (reverse signs) z run ≡ all → each with_sign 0 (reverse before) y run ≡ all
goes_on signs before sign z y run all is gives h =
    any_index 0 1 (reverse before) y run ∙ ap (λ r. and_then r (each with_sign 1 (reverse before))) (gives 0 run) ∙ sym (last_sign signs before sign z run is) ∙ h

pub ends : (signs before : List Sign) (sign : Sign) (z : ℤ) (code : Code) (run : Run) (all : Result (ℤ × Run) Code) → signs ≡ before ++ sign ∷ []
    → ((n : ℕ) (run : Run) → come_to {A = ℤ} (Err code) run ≡ with_sign n z sign run) → each with_sign 0 (reverse signs) z run ≡ all → come_to {A = ℤ} (Err code) run ≡ all
ends signs before sign z code run all is gives h =
    ap (λ r. and_then r (each with_sign 1 (reverse before))) (gives 0 run) ∙ sym (last_sign signs before sign z run is) ∙ h

pub none_left : (signs : List Sign) (z : ℤ) (run : Run) (all : Result (ℤ × Run) Code) → length signs ≡ 0 → each with_sign 0 (reverse signs) z run ≡ all → come_to (Ok z) run ≡ all
none_left [] z run all is h = h
none_left (s ∷ signs) z run all is h = absurd (omega (arith, is))

-- a sequence of one value, or of none, that signs stand before
abbrev signed_if : List Sign → Option (ℤ × ℤ) → M (List Item)
signed_if signs None = pure []
signed_if signs (Some p) = each with_sign 0 (reverse signs) p.0 >>= (λ z. pure (one (atom.Integer z)))

-- by its operands beside a number
by_operands : (signs : List Sign) (xs : List Atom) (n : ℤ) (run : Run) → with_signs signs xs run ≡ and_then (come_to (operands xs (atom.Integer n ∷ [])) run) (signed_if signs)
by_operands signs [] n run = refl
by_operands signs (a ∷ b ∷ xs) n run = refl
by_operands signs (atom.Integer z ∷ []) n run = refl
by_operands signs (atom.String text ∷ []) n run = refl
by_operands signs (atom.Boolean b ∷ []) n run = refl
by_operands signs (atom.Untyped text ∷ []) n run = over (integer_of text)
  where
    over : (o : Option ℤ) → and_then (come_to (or_fault FORG0001 o) run) (λ z. each with_sign 0 (reverse signs) z >>= (λ y. pure (one (atom.Integer y)))) ≡ and_then (come_to (both (or_fault FORG0001 o) (λ x. both (Ok n) (λ y. Ok (Some (x, y))))) run) (signed_if signs)
    over (Some z) = refl
    over None = refl

pub signed_value : (signs : List Sign) (xs : List Atom) (n z m y : ℤ) (items : List Item) (run : Run) → Ok (Some (z, m)) ≡ operands xs (atom.Integer n ∷ [])
    → ((run : Run) → come_to (Ok y) run ≡ each with_sign 0 (reverse signs) z run) → items ≡ one (atom.Integer y) → GivesIn Stand (with_signs signs xs) run (Ok items) run
signed_value signs xs n z m y items run found is same =
    let P : List Item → Type 0 = λ is. Stand is run in
    (by_operands signs xs n run ∙ ap (λ r. and_then (come_to r run) (signed_if signs)) (sym found) ∙ ap (λ r. and_then r (λ z. pure (one (atom.Integer z)))) (sym (is run)) ∙ ap (λ is. Ok (is, run)) (sym same), (grows_refl run, subst P (sym same) (one_stands (atom.Integer y) run)))

pub signed_fault : (signs : List Sign) (xs : List Atom) (n z m : ℤ) (code : Code) (run : Run) → Ok (Some (z, m)) ≡ operands xs (atom.Integer n ∷ [])
    → ((run : Run) → come_to {A = ℤ} (Err code) run ≡ each with_sign 0 (reverse signs) z run) → with_signs signs xs run ≡ Err code
signed_fault signs xs n z m code run found is =
    by_operands signs xs n run ∙ ap (λ r. and_then (come_to r run) (signed_if signs)) (sym found) ∙ ap (λ r. and_then r (λ z. pure (one (atom.Integer z)))) (sym (is run))
