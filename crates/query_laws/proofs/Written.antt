-- What the tokens of a text are made of.
use Rattle.std.proofs.Common.{◌≡◌, ℕ, Bool, true, false, ◌||◌, ◌==◌, nat_lt, cond, List, [], ◌∷◌, ◌++◌, length, Option, Some, None, refl, ap, sym, ◌∙◌}
use Rattle.std.proofs.lemmas.Bool.{and_parts}
use Rattle.std.proofs.lemmas.List.Elements.{All-nil, All-cons, All-append}
use Rattle.std.specs.List.{All, list_all}
use Rattle.std.specs.Str.{bytes_eq}
use Rattle.std.specs.Prelude.{codes}
use Rattle.document_names.specs.Characters.{is_digit, is_name_start, is_name_character}
use Rattle.fault_codes.specs.declared.code.Code.TheVariants.{XPST0003}
use Rattle.query_tokens.specs.Limits.{max_integer}
use Rattle.query_tokens.specs.declared.kind.Kind.{Kind}
use Rattle.query_tokens.specs.declared.kind.Kind.TheVariants as k
use Rattle.query_tokens.specs.declared.token.Token.{Token}
use Rattle.query_tokens.specs.Words.{kind_of, kind_in, words, marks, pairs, singles}
use Rattle.query_tokens.specs.Reading.{Gives, pure, fails, begins, first_of, skip, mark}
use Rattle.query_tokens.specs.Lexing as lexing
use Rattle.query_laws.specs.Written.{IsXmlString, HasXmlString}
use Rattle.query_laws.proofs.Strings.{Makes, makes_pure, makes_fails, makes_bind, makes_after, makes_if, makes_repeat, makes_contents, any}

no_string : Kind → Bool
no_string k.String = false
no_string _ = true

not_such : (t : Token) → no_string t.kind ≡ true → HasXmlString t
unfolding no_string
not_such t h e = absurd (let g : no_string k.String ≡ true = ap no_string (sym e) ∙ h in let f : ⊥ = cc in f)

kind_passes : (name : List ℕ) (ws : List (List ℕ × Kind)) → list_all (λ w. no_string w.1) ws ≡ true → no_string (kind_in ws name) ≡ true
unfolding no_string
kind_passes name [] h = refl
kind_passes name (w ∷ ws) h = one (bytes_eq w.0 name) (kind_passes name ws (and_parts (no_string w.1) (list_all (λ w. no_string w.1) ws) h).1)
  where
    one : (t : Bool) → no_string (kind_in ws name) ≡ true → no_string (cond t w.1 (kind_in ws name)) ≡ true
    one true e = (and_parts (no_string w.1) (list_all (λ w. no_string w.1) ws) h).0
    one false e = e

of_name : (name : List ℕ) → no_string (kind_of name) ≡ true
unfolding kind_of no_string
of_name name = kind_passes name words refl

-- a mark whose kind passes a test
abbrev pub IsMark : (Kind → Bool) → Option (List ℕ × Kind) → Type 0
IsMark p None = Unit {0}
IsMark p (Some m) = p m.1 ≡ true

pub mark_found : (p : Kind → Bool) (ms : List (List ℕ × Kind)) (text : List ℕ) → list_all (λ m. p m.1) ms ≡ true → IsMark p (first_of ms text)
mark_found p [] text h = tt
mark_found p (m ∷ ms) text h = one (begins m.0 text) (mark_found p ms text (and_parts (p m.1) (list_all (λ m. p m.1) ms) h).1)
  where
    one : (t : Bool) → IsMark p (first_of ms text) → IsMark p (cond t (Some m) (first_of ms text))
    one true e = (and_parts (p m.1) (list_all (λ m. p m.1) ms) h).0
    one false e = e

marks_found : (text : List ℕ) → IsMark no_string (first_of marks text)
unfolding marks pairs singles no_string
marks_found text = mark_found no_string marks text refl

makes_marked : (o : Option (List ℕ × Kind)) → IsMark no_string o → Makes HasXmlString (lexing.marked o)
makes_marked None h = makes_fails HasXmlString XPST0003
makes_marked (Some m) h = makes_after (skip (length m.0)) (makes_pure HasXmlString (lexing.mark_token m.1) (not_such (lexing.mark_token m.1) h))

makes_mark : Makes HasXmlString (λ text. lexing.marked (first_of marks text) text)
makes_mark = record { made = λ text a rest e. (makes_marked (first_of marks text) (marks_found text)).made text a rest e }

makes_name_of : (found : List ℕ) → Makes HasXmlString (lexing.name_of found)
makes_name_of found = one (bytes_eq found (codes "xmlns"))
  where
    one : (t : Bool) → Makes HasXmlString (cond t (fails XPST0003) (pure (record { kind = kind_of found; text = found; number = 0 })))
    one true = makes_fails HasXmlString XPST0003
    one false = makes_pure HasXmlString _ (not_such (record { kind = kind_of found; text = found; number = 0 }) (of_name found))

makes_name : Makes HasXmlString lexing.name
makes_name = makes_bind (any (lexing.run_of is_name_character)) (λ found h. makes_name_of found)

makes_number_of : (digits : List ℕ) → Makes HasXmlString (lexing.number_of digits)
unfolding no_string
makes_number_of digits = makes_if (λ text. lexing.goes_on is_name_start text || nat_lt max_integer (lexing.decimal_of digits)) (makes_fails HasXmlString XPST0003)
    (makes_pure HasXmlString _ (not_such (record { kind = k.Number; text = []; number = lexing.decimal_of digits }) refl))

makes_number : Makes HasXmlString lexing.number
makes_number = makes_bind (any (lexing.run_of is_digit)) (λ digits h. makes_number_of digits)

makes_string : (quote : ℕ) → Makes IsXmlString (lexing.contents quote) → Makes HasXmlString (lexing.string quote)
makes_string quote h = makes_bind (makes_after (skip 1) h) (λ content s. makes_after (mark (quote ∷ [])) (makes_pure HasXmlString (record { kind = k.String; text = content; number = 0 }) (λ e. s)))

makes_token : Makes HasXmlString lexing.token
makes_token =
    makes_if (lexing.goes_on is_name_start) makes_name (makes_if (lexing.goes_on is_digit) makes_number
    (makes_if (lexing.goes_on (λ c. c == 34)) (makes_string 34 (makes_contents 34 refl)) (makes_if (lexing.goes_on (λ c. c == 39)) (makes_string 39 (makes_contents 39 refl)) makes_mark)))

makes_next : (found : List Token) → All HasXmlString found → Makes (All HasXmlString) (lexing.next_token found)
makes_next found h = makes_bind makes_token (λ t g. makes_after lexing.separators
    (makes_pure (All HasXmlString) (found ++ t ∷ []) (All-append HasXmlString found (t ∷ []) h (All-cons HasXmlString t [] g (All-nil HasXmlString)))))

makes_tokens : Makes (All HasXmlString) lexing.tokens
unfolding lexing.tokens
makes_tokens = makes_after lexing.separators (makes_repeat (All HasXmlString) (λ _ text. lexing.is_left text) lexing.next_token makes_next [] (All-nil HasXmlString))

pub strings : (text : List ℕ) (ts : List Token) (rest : List ℕ) → lexing.tokens text ≡ Gives ts rest → All HasXmlString ts
strings text ts rest e = makes_tokens.made text ts rest e
