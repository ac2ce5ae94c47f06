-- What `parse` reads as an integer is what a sign and digits stand for.
use Rattle.std.proofs.Common.{◌≡◌, ℕ, ◌^◌, ◌<◌, ◌≤◌, Bool, true, false, cond, eqb, ltb, leb, ℤ, pos, neg_ℤ, List, [], ◌∷◌, length, refl, arith, Some, None, Result, Ok, Err, w64}
use Rattle.std.specs.Result.{OkIff, result_ok}
use Rattle.std.specs.List.{list_all}
use Rattle.std.specs.Str.Parse.{ParsesSigned}
use Rattle.std.proofs.lemmas.Bool.{false≢true}
use Rattle.std.proofs.lemmas.Bool.Decides.{nat_tests}
use Rattle.std.proofs.lemmas.Str.Parse.{IsNumeralModel, IsDigitsTest, numerals_by_fold, parse_signed_minus, parse_signed_plus, parse_signed_plain}
use Rattle.document_names.specs.Characters.{is_digit}
use Rattle.values.specs.Readings.{number_from, are_digits, not_negative, not_positive, signed}

digits : IsDigitsTest (λ ds. list_all is_digit ds ≡ true)
digits = record { empty = refl; parts = λ c cs h. grind (arith, nat_tests); more = λ c cs h k. grind (arith, nat_tests) }

-- digits and their number are those of `parse`
own : IsNumeralModel (λ ds. list_all is_digit ds ≡ true) (number_from 0)
own = numerals_by_fold (λ ds. list_all is_digit ds ≡ true) digits number_from (record { empty = λ n. refl; more = λ n c cs h. refl })

-- the option that a result leaves where both tests hold
kept : {E : Type 0} (r : Result ℤ E) (a b : Bool) (A : Type 0) (x : ℤ) → OkIff r A x → (a ≡ true → b ≡ true → A) → (A → (a ≡ true) × (b ≡ true)) → result_ok r ≡ cond a (cond b (Some x) None) None
kept (Ok y) a b A x h f g = let t = g h.0 in rw (t.0, t.1, h.1) refl
kept (Err e) true true A x h f g = absurd (h (f refl refl))
kept (Err e) true false A x h f g = refl
kept (Err e) false b A x h f g = refl

-- one digit or more
some-digits : (ds : List ℕ) → are_digits ds ≡ true → (list_all is_digit ds ≡ true) × (0 < length ds)
some-digits [] h = absurd (false≢true h)
some-digits (d ∷ ds) h = (h, omega arith)

are-digits : (ds : List ℕ) → list_all is_digit ds ≡ true → 0 < length ds → are_digits ds ≡ true
are-digits [] h p = absurd (omega arith)
are-digits (d ∷ ds) h p = h

below : {E : Type 0} (ds : List ℕ) (r : Result ℤ E) → OkIff r ((list_all is_digit ds ≡ true) × (0 < length ds) × (number_from 0 ds < 2 ^ 63)) (pos (number_from 0 ds)) → result_ok r ≡ cond (are_digits ds) (not_negative (number_from 0 ds)) None
below ds r h =
    kept r (are_digits ds) (ltb (number_from 0 ds) (2 ^ 63)) _ _ h (λ a b. (let s = some-digits ds a in (s.0, s.1, grind (arith, nat_tests)))) (λ t. (are-digits ds t.0 t.1, (let p = t.2 in grind (arith, nat_tests))))

up-to : {E : Type 0} (ds : List ℕ) (r : Result ℤ E) → OkIff r ((list_all is_digit ds ≡ true) × (0 < length ds) × (number_from 0 ds ≤ 2 ^ 63)) (neg_ℤ (pos (number_from 0 ds))) → result_ok r ≡ cond (are_digits ds) (not_positive (number_from 0 ds)) None
up-to ds r h =
    kept r (are_digits ds) (leb (number_from 0 ds) (2 ^ 63)) _ _ h (λ a b. (let s = some-digits ds a in (s.0, s.1, grind (arith, nat_tests)))) (λ t. (are-digits ds t.0 t.1, (let p = t.2 in grind (arith, nat_tests))))

pub parsed-signed : {E : Type 0} (bs : List ℕ) (r : Result ℤ E) → ParsesSigned w64 10 bs r → result_ok r ≡ signed bs
parsed-signed [] r h = kept r false false _ (pos 0) (parse_signed_plain own w64 [] r h (omega arith) (omega arith)) (λ e f. absurd (false≢true e)) (λ t. absurd (omega (arith, t.1)))
parsed-signed (c ∷ ds) r h =
    let minus : Bool → Type 0 = λ v. eqb c 45 ≡ v → result_ok r ≡ signed (c ∷ ds) in
    let plus : Bool → Type 0 = λ v. eqb c 45 ≡ false → eqb c 43 ≡ v → result_ok r ≡ signed (c ∷ ds) in
    let of-plus : (v : Bool) → plus v = λ v. elim v as plus [ true ↦ λ e f. rw (e, f) (below ds r (parse_signed_plus own w64 (c ∷ ds) r h (grind (arith, nat_tests)))) | false ↦ λ e f. rw (e, f) (below (c ∷ ds) r (parse_signed_plain own w64 (c ∷ ds) r h (grind (arith, nat_tests)) (grind (arith, nat_tests)))) ] in
    let of-minus : (v : Bool) → minus v = λ v. elim v as minus [ true ↦ λ e. rw e (up-to ds r (parse_signed_minus own w64 (c ∷ ds) r h (grind (arith, nat_tests)))) | false ↦ λ e. of-plus (eqb c 43) e refl ] in
    of-minus (eqb c 45) refl
