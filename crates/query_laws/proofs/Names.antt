-- What the names and numbers of a text are.
use Rattle.std.proofs.Common.{◌≡◌, ◌≤◌, inl, inr, ℕ, Bool, true, false, not, ◌&&◌, ◌||◌, ◌==◌, nat_lt, cond, List, [], ◌∷◌, ◌++◌, length, codes, Option, Some, None, refl, ap, ap₂, ◌∙◌, arith}
use Rattle.std.proofs.lemmas.Bool.Decides.{nat_tests}
use Rattle.std.proofs.lemmas.Bool.{and_parts, not-true}
use Rattle.std.proofs.lemmas.List.Elements.{All-nil, All-cons, All-append}
use Rattle.std.proofs.lemmas.List.Folds.{list_all-append}
use Rattle.std.specs.List.{All, list_all}
use Rattle.std.specs.Str.{bytes_eq}
use Rattle.document_names.specs.Characters.{is_digit, is_name, is_name_start, is_name_character}
use Rattle.fault_codes.specs.declared.code.Code.TheVariants.{XPST0003}
use Rattle.query_tokens.specs.Limits.{max_integer}
use Rattle.query_tokens.specs.declared.kind.Kind.{Kind}
use Rattle.query_tokens.specs.declared.kind.Kind.TheVariants as k
use Rattle.query_tokens.specs.declared.token.Token.{Token}
use Rattle.query_tokens.specs.Words.{is_name_kind, kind_of, marks, pairs, singles}
use Rattle.query_tokens.specs.Reading.{Gives, Fails, Reader, on_read, ◌>>=◌, ◌>>◌, pure, fails, first_of, skip, mark, such, rounds}
use Rattle.query_tokens.specs.Lexing as lexing
use Rattle.query_laws.specs.Written.{HasName}
use Rattle.query_laws.proofs.Strings.{Makes, makes_pure, makes_fails, makes_bind, makes_after, makes_if, makes_repeat, makes_such, any, read_on, turns_make}
use Rattle.query_laws.proofs.Written.{IsMark, mark_found}

-- what a token says beside its kind: one of a name's kind says a name, and no number is above the greatest
pub record Says (t : Token) : Type 0 where
  pub has_name : HasName t
  pub name : is_name_kind t.kind ≡ true → is_name t.text ≡ true
  pub number : t.number ≤ max_integer

-- a token that is no name says nothing, or a number
of_no_name : (kind : Kind) (n : ℕ) → is_name_kind kind ≡ false → n ≤ max_integer → Says (record { kind = kind; text = []; number = n })
of_no_name kind n h le = record { has_name = λ _. inl refl; name = λ e. absurd (let f : ⊥ = cc in f); number = le }

-- such characters, the first of which a name may begin with
abbrev begins_name : List ℕ → Bool
begins_name [] = false
begins_name (c ∷ cs) = is_name_start c && list_all is_name_character cs

longer : (found : List ℕ) (c : ℕ) → begins_name found ≡ true → is_name_character c ≡ true → begins_name (found ++ c ∷ []) ≡ true
longer [] c h g = absurd (let f : ⊥ = cc in f)
longer (d ∷ ds) c h g =
    let parts = and_parts (is_name_start d) (list_all is_name_character ds) h in
    ap₂ (λ a b. a && b) parts.0 (list_all-append is_name_character ds (c ∷ []) ∙ ap₂ (λ a b. a && (b && true)) parts.1 g)

-- The characters of a name.

abbrev goes : List ℕ → List ℕ → Bool
goes _ text = lexing.goes_on is_name_character text

abbrev step : List ℕ → Reader (List ℕ)
step found = such is_name_character >>= (λ c. pure (found ++ c ∷ []))

keeps : (found : List ℕ) → begins_name found ≡ true → Makes (λ f. begins_name f ≡ true) (step found)
keeps found h = makes_bind (makes_such is_name_character) (λ c g. makes_pure (λ f. begins_name f ≡ true) (found ++ c ∷ []) (longer found c h g))

after_first : (t : Bool) (c : ℕ) (cs : List ℕ) (n : ℕ) (found rest : List ℕ) → t ≡ true
    → cond t (on_read (on_read (cond t (Gives c cs) (Fails XPST0003)) (λ d. pure (d ∷ []))) (λ a mid. rounds goes step n a mid)) (Gives [] (c ∷ cs)) ≡ Gives found rest
    → rounds goes step n (c ∷ []) cs ≡ Gives found rest
after_first true c cs n found rest h e = e
after_first false c cs n found rest h e = absurd (let f : ⊥ = cc in f)

run_name : (c : ℕ) (cs found rest : List ℕ) → is_name_start c ≡ true → lexing.run_of is_name_character (c ∷ cs) ≡ Gives found rest → begins_name found ≡ true
unfolding rounds
run_name c cs found rest s e =
    let first : is_name_character c ≡ true = ap (λ b. b || is_digit c || (c == 46) || (c == 45)) s in
    turns_make (λ f. begins_name f ≡ true) goes step keeps (length cs) (c ∷ []) cs found rest (ap (λ b. b && true) s)
    (after_first (is_name_character c) c cs (length cs) found rest first e)

named : (found : List ℕ) → begins_name found ≡ true → bytes_eq found (codes "xmlns") ≡ false → is_name found ≡ true
named [] h e = absurd (let f : ⊥ = cc in f)
named (d ∷ ds) h e =
    let parts = and_parts (is_name_start d) (list_all is_name_character ds) h in
    rw (parts.0, parts.1, e) refl

makes_name_of : (found : List ℕ) → begins_name found ≡ true → Makes Says (lexing.name_of found)
makes_name_of found h = one (bytes_eq found (codes "xmlns")) refl
  where
    one : (t : Bool) → bytes_eq found (codes "xmlns") ≡ t → Makes Says (cond t (fails XPST0003) (pure (record { kind = kind_of found; text = found; number = 0 })))
    one true e = makes_fails Says XPST0003
    one false e = makes_pure Says _ (record { has_name = λ _. inr (named found h e); name = λ _. named found h e; number = omega arith })

name_made : (text : List ℕ) → lexing.goes_on is_name_start text ≡ true → (t : Token) (rest : List ℕ) → lexing.name text ≡ Gives t rest → Says t
name_made [] s t rest e = absurd (let f : ⊥ = cc in f)
name_made (c ∷ cs) s t rest e =
    let r = read_on (lexing.run_of is_name_character (c ∷ cs)) lexing.name_of t rest e in
    (makes_name_of r.0 (run_name c cs r.0 r.1 s r.2)).made r.1 t rest r.3

-- Tokens.

makes_number_of : (digits : List ℕ) → Makes Says (lexing.number_of digits)
makes_number_of digits = record { made = λ text a rest e. one (lexing.goes_on is_name_start text) (nat_lt max_integer (lexing.decimal_of digits)) refl text a rest e }
  where
    token_of : Token
    token_of = record { kind = k.Number; text = []; number = lexing.decimal_of digits }

    one : (word above : Bool) → nat_lt max_integer (lexing.decimal_of digits) ≡ above → (text : List ℕ) (a : Token) (rest : List ℕ)
        → cond (word || above) (Fails XPST0003) (Gives token_of text) ≡ Gives a rest → Says a
    one true above h text a rest e = absurd (let f : ⊥ = cc in f)
    one false true h text a rest e = absurd (let f : ⊥ = cc in f)
    one false false h text a rest e = (makes_pure Says token_of (of_no_name k.Number (lexing.decimal_of digits) refl (grind (arith, nat_tests)))).made text a rest e

makes_number : Makes Says lexing.number
makes_number = makes_bind (any (lexing.run_of is_digit)) (λ digits h. makes_number_of digits)

of_string : (content : List ℕ) → Says (record { kind = k.String; text = content; number = 0 })
of_string content = record { has_name = λ other. absurd (other refl); name = λ e. absurd (let f : ⊥ = cc in f); number = omega arith }

makes_string : (quote : ℕ) → Makes Says (lexing.string quote)
makes_string quote = makes_bind (any (skip 1 >> lexing.contents quote)) (λ content s. makes_after (mark (quote ∷ [])) (makes_pure Says _ (of_string content)))

abbrev no_name_kind : Kind → Bool
no_name_kind kind = not (is_name_kind kind)

makes_marked : (o : Option (List ℕ × Kind)) → IsMark no_name_kind o → Makes Says (lexing.marked o)
makes_marked None h = makes_fails Says XPST0003
makes_marked (Some m) h = makes_after (skip (length m.0)) (makes_pure Says (lexing.mark_token m.1) (of_no_name m.1 0 (not-true (is_name_kind m.1) h) (omega arith)))

marks_found : (text : List ℕ) → IsMark no_name_kind (first_of marks text)
unfolding marks pairs singles
marks_found text = mark_found no_name_kind marks text refl

makes_mark : Makes Says (λ text. lexing.marked (first_of marks text) text)
makes_mark = record { made = λ text a rest e. (makes_marked (first_of marks text) (marks_found text)).made text a rest e }

abbrev no_name : Reader Token
no_name text =
    cond (lexing.goes_on is_digit text) (lexing.number text)
    (cond (lexing.goes_on (λ c. c == 34) text) (lexing.string 34 text)
    (cond (lexing.goes_on (λ c. c == 39) text) (lexing.string 39 text)
    (lexing.marked (first_of marks text) text)))

makes_no_name : Makes Says no_name
makes_no_name = makes_if (lexing.goes_on is_digit) makes_number (makes_if (lexing.goes_on (λ c. c == 34)) (makes_string 34) (makes_if (lexing.goes_on (λ c. c == 39)) (makes_string 39) makes_mark))

token_made : (text : List ℕ) (t : Token) (rest : List ℕ) → lexing.token text ≡ Gives t rest → Says t
token_made text t rest e = one (lexing.goes_on is_name_start text) refl e
  where
    one : (b : Bool) → lexing.goes_on is_name_start text ≡ b → cond b (lexing.name text) (no_name text) ≡ Gives t rest → Says t
    one true s e = name_made text s t rest e
    one false s e = makes_no_name.made text t rest e

makes_token : Makes Says lexing.token
makes_token = record { made = token_made }

makes_next : (found : List Token) → All Says found → Makes (All Says) (lexing.next_token found)
makes_next found h = makes_bind makes_token (λ t g. makes_after lexing.separators
    (makes_pure (All Says) (found ++ t ∷ []) (All-append Says found (t ∷ []) h (All-cons Says t [] g (All-nil Says)))))

makes_tokens : Makes (All Says) lexing.tokens
unfolding lexing.tokens
makes_tokens = makes_after lexing.separators (makes_repeat (All Says) (λ _ text. lexing.is_left text) lexing.next_token makes_next [] (All-nil Says))

pub said : (text : List ℕ) (ts : List Token) (rest : List ℕ) → lexing.tokens text ≡ Gives ts rest → All Says ts
said text ts rest e = makes_tokens.made text ts rest e

pub names : (text : List ℕ) (ts : List Token) (rest : List ℕ) → lexing.tokens text ≡ Gives ts rest → All HasName ts
names text ts rest e = λ i d within. (said text ts rest e i d within).has_name
