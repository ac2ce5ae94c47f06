-- The decimal digits of a number are read as that number.
use Rattle.std.proofs.Common.{◌≡◌, ℕ, ◌+◌, ◌-◌, ◌*◌, ◌/◌, ◌%◌, ◌^◌, ◌<◌, ◌≤◌, true, All, List, [], ◌∷◌, ◌++◌, length, fold, decimal, refl, ap, ◌∙◌, arith, length-append}
use Rattle.std.proofs.lemmas.Bool.Decides.{nat_tests}
use Rattle.std.proofs.lemmas.Fmt.{decimal_by_steps}
use Rattle.std.proofs.lemmas.List.Elements.{All-nil, All-cons, All-append}
use Rattle.document_names.specs.Characters.{is_digit}
use Rattle.query_tokens.specs.Lexing.{decimal_of}

-- the digits of a number
pub record AreDigitsOf (n : ℕ) (digits : List ℕ) : Type 0 where
  pub each : All (λ c. is_digit c ≡ true) digits
  pub spell : decimal_of digits ≡ n
  pub some : 0 < length digits

digit : (n : ℕ) → n < 10 → is_digit (48 + n) ≡ true
digit n h = grind (arith, nat_tests)

one_digit : (n : ℕ) → n < 10 → All (λ c. is_digit c ≡ true) ((48 + n) ∷ [])
one_digit n h = All-cons (λ c. is_digit c ≡ true) (48 + n) [] (digit n h) (All-nil (λ c. is_digit c ≡ true))

fold_push : (f : ℕ → ℕ → ℕ) (start : ℕ) (ds : List ℕ) (d : ℕ) → fold f start (ds ++ d ∷ []) ≡ f (fold f start ds) d
fold_push f start [] d = refl
fold_push f start (x ∷ xs) d = fold_push f (f start x) xs d

single : (n : ℕ) → n < 10 → AreDigitsOf n ((48 + n) ∷ [])
single n h = record { each = one_digit n h; spell = omega arith; some = omega arith }

more : (n : ℕ) (ds : List ℕ) → 10 ≤ n → AreDigitsOf (n / 10) ds → AreDigitsOf n (ds ++ (48 + n % 10) ∷ [])
more n ds h r = record {
  each = All-append (λ c. is_digit c ≡ true) ds ((48 + n % 10) ∷ []) r.each (one_digit (n % 10) (omega arith));
  spell =
      fold_push (λ n d. 10 * n + (d - 48)) 0 ds (48 + n % 10) ∙ ap (λ k. 10 * k + (48 + n % 10 - 48)) r.spell ∙ omega arith;
  some = omega (arith, length-append ds ((48 + n % 10) ∷ []));
}

pub digits_of : (n : ℕ) → n < 2 ^ 64 → AreDigitsOf n (decimal n)
digits_of = decimal_by_steps AreDigitsOf single more
