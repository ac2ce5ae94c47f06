-- The pieces of printed texts: words, names, marks and numbers.
use Rattle.std.proofs.Common.{◌≡◌, ℕ, ◌≤◌, Bool, true, false, not, cond, ◌==◌, ◌&&◌, ◌||◌, nat_lt, All, List, [], ◌∷◌, ◌++◌, length, take, decimal, refl, ap, ap₂, sym, ◌∙◌, subst, ⊎_elim, arith, codes}
use Rattle.std.proofs.lemmas.Bool.{eqb-true, le-ltb, and_parts, not-true, or_cases, cond-true, cond-false}
use Rattle.std.proofs.lemmas.Bool.Decides.{nat_tests}
use Rattle.std.proofs.lemmas.List.Elements.{All-nil, All-cons, All-head}
use Rattle.std.specs.List.{list_all}
use Rattle.std.specs.Str.{bytes_eq}
use Rattle.document_names.specs.Characters.{is_digit, is_name, is_name_start, is_name_character}
use Rattle.fault_codes.specs.declared.code.Code.TheVariants.{XPST0003}
use Rattle.query_tokens.specs.Reading.{Gives, Fails, fails, pure, begins}
use Rattle.query_tokens.specs.Lexing.{goes_on, is_space, is_separated, is_left, IsRun, token, name as read_name, name_of, number as read_number, number_of, decimal_of, mark_token}
use Rattle.query_tokens.specs.Limits.{max_integer}
use Rattle.query_tokens.specs.Words.{marks, pairs, singles}
use Rattle.query_tokens.specs.declared.kind.Kind.TheVariants as k
use Rattle.query_tokens.proofs.Runs.{run_then}
use Rattle.printed_trees.proofs.Spelling.{word, number}
use Rattle.printed_trees.proofs.Turns.{Reads, one, after, not_separated, one_space}
use Rattle.printed_trees.proofs.Numerals.{AreDigitsOf, digits_of}

-- an item ends there: the text does, or a comma or a brace follows
abbrev pub is_end : List ℕ → Bool
is_end [] = true
is_end (c ∷ cs) = c == 44 || c == 125

pub at_end : (P : List ℕ → Type 0) → P [] → ((cs : List ℕ) → P (44 ∷ cs)) → ((cs : List ℕ) → P (125 ∷ cs)) → (rest : List ℕ) → is_end rest ≡ true → P rest
at_end P nil comma brace [] h = nil
at_end P nil comma brace (c ∷ cs) h =
    ⊎_elim (λ e. subst (λ x. P (x ∷ cs)) (sym (eqb-true c 44 e)) (comma cs)) (λ e. subst (λ x. P (x ∷ cs)) (sym (eqb-true c 125 e)) (brace cs)) (or_cases (c == 44) (c == 125) h)

pub end_is_not_separated : (rest : List ℕ) → is_end rest ≡ true → is_separated rest ≡ false
end_is_not_separated = at_end (λ rest. is_separated rest ≡ false) refl (λ cs. refl) (λ cs. refl)

pub end_is_no_quote : (rest : List ℕ) → is_end rest ≡ true → begins (34 ∷ 34 ∷ []) (34 ∷ rest) ≡ false
end_is_no_quote = at_end (λ rest. begins (34 ∷ 34 ∷ []) (34 ∷ rest) ≡ false) refl (λ cs. refl) (λ cs. refl)

end_is_no_digit : (rest : List ℕ) → is_end rest ≡ true → goes_on is_digit rest ≡ false
end_is_no_digit = at_end (λ rest. goes_on is_digit rest ≡ false) refl (λ cs. refl) (λ cs. refl)

end_is_no_name : (rest : List ℕ) → is_end rest ≡ true → goes_on is_name_start rest ≡ false
end_is_no_name = at_end (λ rest. goes_on is_name_start rest ≡ false) refl (λ cs. refl) (λ cs. refl)

-- a character that neither separates nor begins a comment
unseparated : (c : ℕ) (cs : List ℕ) → is_space c ≡ false → (40 == c) ≡ false → is_separated (c ∷ cs) ≡ false
unseparated c cs h g = ap₂ (λ a b. a || (b && bytes_eq (58 ∷ []) (take 1 cs))) h g

-- Names.

name_not_space : (c : ℕ) → is_name_start c ≡ true → is_space c ≡ false
name_not_space c h = grind (arith, nat_tests)

name_not_paren : (c : ℕ) → is_name_start c ≡ true → (40 == c) ≡ false
name_not_paren c h = grind (arith, nat_tests)

all_of : (cs : List ℕ) → list_all is_name_character cs ≡ true → All (λ c. is_name_character c ≡ true) cs
all_of [] h = All-nil (λ c. is_name_character c ≡ true)
all_of (c ∷ cs) h = let parts = and_parts (is_name_character c) (list_all is_name_character cs) h in All-cons (λ c. is_name_character c ≡ true) c cs parts.0 (all_of cs parts.1)

-- what a name is
pub record HasName (c : ℕ) (cs : List ℕ) : Type 0 where
  pub first : is_name_start c ≡ true
  pub each : All (λ c. is_name_character c ≡ true) (c ∷ cs)
  pub other : bytes_eq (c ∷ cs) (codes "xmlns") ≡ false

pub has_name : (c : ℕ) (cs : List ℕ) → is_name (c ∷ cs) ≡ true → HasName c cs
has_name c cs h =
    let parts = and_parts (is_name_start c && list_all is_name_character cs) (not (bytes_eq (c ∷ cs) (codes "xmlns"))) h in
    let front = and_parts (is_name_start c) (list_all is_name_character cs) parts.0 in
    record {
      first = front.0;
      each = All-cons (λ c. is_name_character c ≡ true) c cs (ap (λ b. b || is_digit c || (c == 46) || (c == 45)) front.0) (all_of cs front.1);
      other = not-true (bytes_eq (c ∷ cs) (codes "xmlns")) parts.1;
    }

pub name_is_not_separated : (name rest : List ℕ) → is_name name ≡ true → is_separated (name ++ rest) ≡ false
name_is_not_separated [] rest h = absurd (let f : ⊥ = cc in f)
name_is_not_separated (c ∷ cs) rest h = let n = has_name c cs h in unseparated c (cs ++ rest) (name_not_space c n.first) (name_not_paren c n.first)

name_left : (name rest : List ℕ) → is_name name ≡ true → is_left (name ++ rest) ≡ true
name_left [] rest h = absurd (let f : ⊥ = cc in f)
name_left (c ∷ cs) rest h = refl

name_token : (name rest : List ℕ) → is_name name ≡ true → goes_on is_name_character rest ≡ false → token (name ++ rest) ≡ Gives (word name) rest
name_token [] rest h g = absurd (let f : ⊥ = cc in f)
name_token (c ∷ cs) rest h g =
    let n = has_name c cs h in
    let run : IsRun is_name_character (c ∷ cs ++ rest) (c ∷ cs) rest = record { joined = refl; each = n.each; longest = g } in
    cond-true (is_name_start c) (read_name (c ∷ cs ++ rest)) _ n.first
    ∙ run_then is_name_character name_of (c ∷ cs ++ rest) (c ∷ cs) rest run
    ∙ ap (λ t. (cond t (fails XPST0003) (pure (word (c ∷ cs)))) rest) n.other

-- a name, and one space
pub name_and_space : (name rest : List ℕ) → is_name name ≡ true → is_separated rest ≡ false → Reads (name ++ 32 ∷ rest) (word name ∷ []) rest
name_and_space name rest h g = one (name ++ 32 ∷ rest) (32 ∷ rest) rest (word name) (name_left name (32 ∷ rest) h) (name_token name (32 ∷ rest) h refl) (one_space rest g)

-- a name, and parentheses
pub name_and_paren : (name rest : List ℕ) → is_name name ≡ true → Reads (name ++ 40 ∷ 41 ∷ rest) (word name ∷ []) (40 ∷ 41 ∷ rest)
name_and_paren name rest h = one (name ++ 40 ∷ 41 ∷ rest) (40 ∷ 41 ∷ rest) (40 ∷ 41 ∷ rest) (word name) (name_left name (40 ∷ 41 ∷ rest) h) (name_token name (40 ∷ 41 ∷ rest) h refl) (not_separated (40 ∷ 41 ∷ rest) refl)

-- Marks.

pub open_brace : (rest : List ℕ) → is_separated rest ≡ false → Reads (123 ∷ rest) (mark_token k.OpenBrace ∷ []) rest
unfolding marks pairs singles
open_brace rest h = one (123 ∷ rest) rest rest (mark_token k.OpenBrace) refl refl (not_separated rest h)

pub close_brace : (rest : List ℕ) → is_separated rest ≡ false → Reads (125 ∷ rest) (mark_token k.CloseBrace ∷ []) rest
unfolding marks pairs singles
close_brace rest h = one (125 ∷ rest) rest rest (mark_token k.CloseBrace) refl refl (not_separated rest h)

pub comma_and_space : (rest : List ℕ) → is_separated rest ≡ false → Reads (44 ∷ 32 ∷ rest) (mark_token k.Comma ∷ []) rest
unfolding marks pairs singles
comma_and_space rest h = one (44 ∷ 32 ∷ rest) (32 ∷ rest) rest (mark_token k.Comma) refl refl (one_space rest h)

pub minus : (rest : List ℕ) → is_separated rest ≡ false → Reads (45 ∷ rest) (mark_token k.Minus ∷ []) rest
unfolding marks pairs singles
minus rest h = one (45 ∷ rest) rest rest (mark_token k.Minus) refl refl (not_separated rest h)

pub parentheses : (rest : List ℕ) → is_separated rest ≡ false → Reads (40 ∷ 41 ∷ rest) (mark_token k.OpenParen ∷ mark_token k.CloseParen ∷ []) rest
unfolding marks pairs singles
parentheses rest h =
    after (40 ∷ 41 ∷ rest) (41 ∷ rest) rest (mark_token k.OpenParen ∷ []) (mark_token k.CloseParen ∷ [])
    (one (40 ∷ 41 ∷ rest) (41 ∷ rest) (41 ∷ rest) (mark_token k.OpenParen) refl refl (not_separated (41 ∷ rest) refl))
    (one (41 ∷ rest) rest rest (mark_token k.CloseParen) refl refl (not_separated rest h))

-- Numbers.

digit_not_space : (c : ℕ) → is_digit c ≡ true → is_space c ≡ false
digit_not_space c h = grind (arith, nat_tests)

digit_not_paren : (c : ℕ) → is_digit c ≡ true → (40 == c) ≡ false
digit_not_paren c h = grind (arith, nat_tests)

digit_not_name : (c : ℕ) → is_digit c ≡ true → is_name_start c ≡ false
digit_not_name c h = grind (arith, nat_tests)

module _ (n : ℕ) (digits : List ℕ) (is : AreDigitsOf n digits) where
  digits_not_separated : (ds rest : List ℕ) → ds ≡ digits → is_separated (ds ++ rest) ≡ false
  digits_not_separated [] rest e = absurd (omega (arith, is.some, ap length e))
  digits_not_separated (d ∷ ds) rest e = let first = All-head (λ c. is_digit c ≡ true) d ds (subst (All (λ c. is_digit c ≡ true)) (sym e) is.each) in unseparated d (ds ++ rest) (digit_not_space d first) (digit_not_paren d first)

  digits_token : (ds rest : List ℕ) → ds ≡ digits → n ≤ max_integer → is_end rest ≡ true → token (ds ++ rest) ≡ Gives (number n) rest
  digits_token [] rest e h g = absurd (omega (arith, is.some, ap length e))
  digits_token (d ∷ ds) rest e h g =
      let each : All (λ c. is_digit c ≡ true) (d ∷ ds) = subst (All (λ c. is_digit c ≡ true)) (sym e) is.each in
      let first = All-head (λ c. is_digit c ≡ true) d ds each in
      let spell : decimal_of (d ∷ ds) ≡ n = ap decimal_of e ∙ is.spell in
      let fits : nat_lt max_integer (decimal_of (d ∷ ds)) ≡ false = ap (nat_lt max_integer) spell ∙ le-ltb max_integer n h in
      let run : IsRun is_digit (d ∷ ds ++ rest) (d ∷ ds) rest = record { joined = refl; each = each; longest = end_is_no_digit rest g } in
      cond-false (is_name_start d) (read_name (d ∷ ds ++ rest)) _ (digit_not_name d first)
      ∙ cond-true (is_digit d) (read_number (d ∷ ds ++ rest)) _ first
      ∙ run_then is_digit number_of (d ∷ ds ++ rest) (d ∷ ds) rest run
      ∙ ap₂ (λ a b. cond (a || b) (Fails XPST0003) (Gives (number (decimal_of (d ∷ ds))) rest)) (end_is_no_name rest g) fits
      ∙ ap (λ m. Gives (number m) rest) spell

  digits_left : (ds rest : List ℕ) → ds ≡ digits → is_left (ds ++ rest) ≡ true
  digits_left [] rest e = absurd (omega (arith, is.some, ap length e))
  digits_left (d ∷ ds) rest e = refl

pub decimal_is_not_separated : (n : ℕ) (rest : List ℕ) → n ≤ max_integer → is_separated (decimal n ++ rest) ≡ false
decimal_is_not_separated n rest h = digits_not_separated n (decimal n) (digits_of n (omega (arith, h))) (decimal n) rest refl

pub decimal_number : (n : ℕ) (rest : List ℕ) → n ≤ max_integer → is_end rest ≡ true → Reads (decimal n ++ rest) (number n ∷ []) rest
decimal_number n rest h g =
    let is = digits_of n (omega (arith, h)) in
    one (decimal n ++ rest) rest rest (number n) (digits_left n (decimal n) is (decimal n) rest refl) (digits_token n (decimal n) is (decimal n) rest refl h g) (not_separated rest (end_is_not_separated rest g))
