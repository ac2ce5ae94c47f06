-- What `parse` reads, as a number below a limit.
use Rattle.std.proofs.Common.{◌≡◌, ℕ, ◌+◌, ◌-◌, ◌*◌, ◌^◌, ◌<◌, true, List, length, Result, Ok, Err, rules, arith}
use Rattle.std.specs.List.{fold, list_all}
use Rattle.std.specs.Result.{OkIff, result_ok}
use Rattle.std.specs.Str.Parse.{ParsesUnsigned}
use Rattle.std.proofs.lemmas.Bool.Decides.{nat_tests}
use Rattle.std.proofs.lemmas.Grind.{common_steps}
use Rattle.std.proofs.lemmas.Str.Parse.{IsNumeralModel, numerals_by_fold, parse_digits}
use Rattle.document_names.specs.Characters.{is_digit}
use Rattle.line_parts.specs.Parts.{number_below}

-- the number that digits after others stand for
abbrev digits_after : ℕ → List ℕ → ℕ
digits_after n ds = fold (λ m b. 10 * m + (b - 48)) n ds

-- the definitions of digits and of their number are those of `parse`
own : IsNumeralModel (λ ds. list_all is_digit ds ≡ true) (digits_after 0)
own = numerals_by_fold _ (search rules) digits_after (search rules)

-- a number below the limit, or none
read_below : {E : Type 0} (k : ℕ) (bs : List ℕ) (r : Result ℕ E) → list_all is_digit bs ≡ true → OkIff r ((0 < length bs) × (digits_after 0 bs < 2 ^ k)) (digits_after 0 bs) → result_ok r ≡ number_below (2 ^ k) bs
read_below k bs (Ok n) digits read = grind (arith, common_steps, nat_tests)
read_below k bs (Err e) digits read = grind (arith, common_steps, nat_tests)

-- of digits alone, `parse` gives the number below the type's limit
pub number_below-from_parse : {E : Type 0} (k : ℕ) (bs : List ℕ) (r : Result ℕ E) → ParsesUnsigned k 10 bs r → list_all is_digit bs ≡ true → result_ok r ≡ number_below (2 ^ k) bs
number_below-from_parse k bs r h digits = read_below k bs r digits (parse_digits own k bs r h digits)
