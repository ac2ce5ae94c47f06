-- Each token takes a character at least, so as many turns as the text has characters read it to its end.
use Rattle.std.proofs.Common.{◌≡◌, ℕ, codes, zero, suc, ◌==◌, nat_lt, ◌||◌, ◌-◌, ◌<◌, ◌≤◌, Bool, true, false, cond, List, [], ◌∷◌, ◌++◌, length, drop, Option, Some, None, refl, sym, ap, ◌∙◌, arith}
use Rattle.std.proofs.lemmas.List.{length-drop}
use Rattle.data_model.specs.Limits.{most_bytes}
use Rattle.document_names.specs.Characters.{is_digit, is_name_start, is_name_character, is_xml_character}
use Rattle.fault_codes.specs.declared.code.Code.{Code}
use Rattle.fault_codes.specs.declared.code.Code.TheVariants.{XPST0003, XQST0090, PXQ0002}
use Rattle.query_tokens.specs.Limits.{max_integer}
use Rattle.query_tokens.specs.declared.token.Token.{Token}
use Rattle.std.specs.Str.{bytes_eq}
use Rattle.std.specs.Char.{encode_utf8}
use Rattle.query_tokens.specs.declared.kind.Kind.TheVariants as kind
use Rattle.query_tokens.specs.Words.{kind_of, marks, pairs, singles, first_kind}
use Rattle.query_tokens.specs.declared.kind.Kind.{Kind}
use Rattle.query_tokens.specs.Reading.{Read, Gives, Fails, Reader, on_read, ◌>>=◌, ◌>>◌, pure, fails, begins, first_of, skip, mark, such, rounds}
use Rattle.query_tokens.specs.Lexing as lexing
use Rattle.query_tokens.proofs.Runs.{one_more}
use Rattle.query_tokens.proofs.Tables.{pair_found, single_found, none_found}

-- what is left is no longer than the text
pub record Keeps {A : Type 0} (p : Reader A) : Type 0 where
  pub no_longer : (text : List ℕ) (a : A) (rest : List ℕ) → p text ≡ Gives a rest → length rest ≤ length text

gives_rest : {A : Type 0} (a b : A) (r s : List ℕ) → Gives a r ≡ Gives b s → r ≡ s
gives_rest a b r s e = cc

read_on : {A B : Type 0} (r : Read A) (f : A → Reader B) (b : B) (rest : List ℕ) → on_read r f ≡ Gives b rest → (a : A) × (mid : List ℕ) × (r ≡ Gives a mid) × (f a mid ≡ Gives b rest)
read_on (Gives a mid) f b rest e = (a, mid, refl, e)
read_on (Fails code) f b rest e = absurd (let h : ⊥ = cc in h)

keeps_pure : {A : Type 0} (a : A) → Keeps (pure a)
keeps_pure a = record { no_longer = λ text b rest e. let h = gives_rest a b text rest e in omega (arith, ap length h) }

keeps_fails : {A : Type 0} (code : Code) → Keeps (fails {A = A} code)
keeps_fails code = record { no_longer = λ text b rest e. absurd (let h : ⊥ = cc in h) }

keeps_bind : {A B : Type 0} {p : Reader A} {f : A → Reader B} → Keeps p → ((a : A) → Keeps (f a)) → Keeps (p >>= f)
keeps_bind {p = p} {f = f} k l = record {
  no_longer = λ text b rest e.
      let h = read_on (p text) f b rest e in omega (arith, k.no_longer text h.0 h.1 h.2, (l h.0).no_longer h.1 b rest h.3);
}

keeps_skip : (n : ℕ) → Keeps (skip n)
keeps_skip n = record { no_longer = λ text b rest e. let h = gives_rest tt b (drop n text) rest e in omega (arith, ap length h, length-drop n text) }

keeps_if : {A : Type 0} {p q : Reader A} (test : List ℕ → Bool) → Keeps p → Keeps q → Keeps (λ text. cond (test text) (p text) (q text))
keeps_if {p = p} {q = q} test k l = record { no_longer = λ text a rest e. one (test text) text a rest e }
  where
    one : (t : Bool) (text : List ℕ) (a : _) (rest : List ℕ) → cond t (p text) (q text) ≡ Gives a rest → length rest ≤ length text
    one true text a rest e = k.no_longer text a rest e
    one false text a rest e = l.no_longer text a rest e

keeps_either : {A : Type 0} {p q : Reader A} (t : Bool) → Keeps p → Keeps q → Keeps (cond t p q)
keeps_either true k l = k
keeps_either false k l = l

keeps_mark : (cs : List ℕ) → Keeps (mark cs)
keeps_mark cs = keeps_if (begins cs) (keeps_skip (length cs)) (keeps_fails XPST0003)

keeps_such : (p : ℕ → Bool) → Keeps (such p)
keeps_such p = record { no_longer = one }
  where
    one : (text : List ℕ) (a : ℕ) (rest : List ℕ) → such p text ≡ Gives a rest → length rest ≤ length text
    one [] a rest e = absurd (let h : ⊥ = cc in h)
    one (c ∷ cs) a rest e = two (p c) e
      where
        two : (t : Bool) → cond t (Gives c cs) (Fails XPST0003) ≡ Gives a rest → length rest ≤ suc (length cs)
        two true e = let h = gives_rest c a cs rest e in omega (arith, ap length h)
        two false e = absurd (let h : ⊥ = cc in h)

module _ {A : Type 0} (goes : A → List ℕ → Bool) (step : A → Reader A) (k : (a : A) → Keeps (step a)) where
  turns_keep : (n : ℕ) (a : A) (text : List ℕ) (b : A) (rest : List ℕ) → rounds goes step n a text ≡ Gives b rest → length rest ≤ length text
  unfolding rounds
  turns_keep zero a text b rest e = let h = gives_rest a b text rest e in omega (arith, ap length h)
  turns_keep (suc n) a text b rest e = one (goes a text) (rounds goes step n) (λ c mid. turns_keep n c mid b rest) e
    where
      one : (t : Bool) (more : A → Reader A) → ((c : A) (mid : List ℕ) → more c mid ≡ Gives b rest → length rest ≤ length mid) → cond t (on_read (step a text) (λ c mid. more c mid)) (Gives a text) ≡ Gives b rest → length rest ≤ length text
      one true more ih e = let h = read_on (step a text) (λ c mid. more c mid) b rest e in omega (arith, (k a).no_longer text h.0 h.1 h.2, ih h.0 h.1 h.3)
      one false more ih e = let h = gives_rest a b text rest e in omega (arith, ap length h)

  keeps_rounds : (n : ℕ) (a : A) → Keeps (rounds goes step n a)
  keeps_rounds n a = record { no_longer = turns_keep n a }

  keeps_repeat : (a : A) → Keeps (λ text. rounds goes step (length text) a text)
  keeps_repeat a = record { no_longer = λ text b rest e. turns_keep (length text) a text b rest e }

-- What separates tokens.

comment_part_keeps : (depth : ℕ) → Keeps (lexing.comment_part depth)
comment_part_keeps depth =
    keeps_if (begins (40 ∷ 58 ∷ [])) (keeps_bind (keeps_skip 2) (λ _. keeps_pure (suc depth)))
    (keeps_if (begins (58 ∷ 41 ∷ [])) (keeps_bind (keeps_skip 2) (λ _. keeps_pure (depth - 1))) (keeps_bind (keeps_such is_xml_character) (λ _. keeps_pure depth)))

comment_keeps : Keeps lexing.comment
comment_keeps = keeps_bind (keeps_bind (keeps_mark (40 ∷ 58 ∷ [])) (λ _. keeps_repeat lexing.is_inside lexing.comment_part comment_part_keeps 1)) (λ depth. keeps_either (depth == 0) (keeps_pure tt) (keeps_fails XPST0003))

separator_keeps : Keeps lexing.separator
separator_keeps = keeps_if (begins (40 ∷ 58 ∷ [])) comment_keeps (keeps_skip 1)

pub separators_keep : Keeps lexing.separators
separators_keep = keeps_repeat (λ _ text. lexing.is_separated text) (λ _. lexing.separator) (λ _. separator_keeps) tt

-- Names and numbers.

run_step_keeps : (p : ℕ → Bool) (found : List ℕ) → Keeps (such p >>= (λ c. pure (found ++ c ∷ [])))
run_step_keeps p found = keeps_bind (keeps_such p) (λ c. keeps_pure (found ++ c ∷ []))

run_keeps : (p : ℕ → Bool) → Keeps (lexing.run_of p)
run_keeps p = keeps_repeat (λ _ text. lexing.goes_on p text) (λ found. such p >>= (λ c. pure (found ++ c ∷ []))) (run_step_keeps p) []

-- a run that begins takes a character
run_shrinks : (p : ℕ → Bool) (c : ℕ) (cs : List ℕ) (front rest : List ℕ) → p c ≡ true → lexing.run_of p (c ∷ cs) ≡ Gives front rest → length rest < suc (length cs)
run_shrinks p c cs front rest h e =
    let more = (keeps_rounds (λ _ text. lexing.goes_on p text) (λ found. such p >>= (λ c. pure (found ++ c ∷ []))) (run_step_keeps p) (length cs) (c ∷ [])).no_longer cs front rest (sym (one_more p (length cs) [] cs c h) ∙ e) in
    omega (arith, more)

name_of_keeps : (found : List ℕ) → Keeps (lexing.name_of found)
name_of_keeps found = keeps_either (bytes_eq found (codes "xmlns")) (keeps_fails XPST0003) (keeps_pure (record { kind = kind_of found; text = found; number = 0 }))

number_of_keeps : (digits : List ℕ) → Keeps (lexing.number_of digits)
number_of_keeps digits = keeps_if (λ text. lexing.goes_on is_name_start text || nat_lt max_integer (lexing.decimal_of digits)) (keeps_fails XPST0003) (keeps_pure (record { kind = kind.Number; text = []; number = lexing.decimal_of digits }))

-- Strings.

character_of_keeps : (base : ℕ) (digits : List ℕ) → Keeps (lexing.character_of base digits)
character_of_keeps base digits =
    keeps_if (λ _. length digits == 0) (keeps_fails XPST0003) (keeps_if (λ _. is_xml_character (lexing.value_of base digits)) (keeps_pure (lexing.value_of base digits)) (keeps_fails XQST0090))

code_point_keeps : (base : ℕ) (p : ℕ → Bool) → Keeps (lexing.code_point base p)
code_point_keeps base p = keeps_bind (run_keeps p) (λ digits. keeps_bind (keeps_mark (59 ∷ [])) (λ _. character_of_keeps base digits))

named_keeps : (o : Option (List ℕ × ℕ)) → Keeps (lexing.named o)
named_keeps None = keeps_fails XPST0003
named_keeps (Some e) = keeps_bind (keeps_skip (length e.0)) (λ _. keeps_pure e.1)

entity_keeps : Keeps (λ text. lexing.named (first_of lexing.entities text) text)
entity_keeps = record { no_longer = λ text a rest e. (named_keeps (first_of lexing.entities text)).no_longer text a rest e }

reference_keeps : Keeps lexing.reference
reference_keeps =
    keeps_if (begins (codes "&#x")) (keeps_bind (keeps_skip 3) (λ _. code_point_keeps 16 lexing.is_hex_digit))
    (keeps_if (begins (codes "&#")) (keeps_bind (keeps_skip 2) (λ _. code_point_keeps 10 is_digit)) entity_keeps)

content_character_keeps : (quote : ℕ) → Keeps (lexing.content_character quote)
content_character_keeps quote =
    keeps_if (lexing.goes_on (λ c. c == quote)) (keeps_bind (keeps_skip 2) (λ _. keeps_pure quote)) (keeps_if (lexing.goes_on (λ c. c == 38)) reference_keeps (keeps_such is_xml_character))

more_content_keeps : (quote : ℕ) (content : List ℕ) → Keeps (lexing.more_content quote content)
more_content_keeps quote content =
    keeps_bind (content_character_keeps quote)
    (λ c. keeps_either (nat_lt most_bytes (length (content ++ encode_utf8 c))) (keeps_fails PXQ0002) (keeps_pure (content ++ encode_utf8 c)))

rest_of_string_keeps : (quote : ℕ) → Keeps (lexing.contents quote >>= lexing.string_of quote)
rest_of_string_keeps quote =
    keeps_bind (keeps_repeat (λ _ text. lexing.is_in_string quote text) (lexing.more_content quote) (more_content_keeps quote) [])
    (λ content. keeps_bind (keeps_mark (quote ∷ [])) (λ _. keeps_pure (record { kind = kind.String; text = content; number = 0 })))

-- Tokens.

module _ (c : ℕ) (cs : List ℕ) (t : Token) (rest : List ℕ) where
  name_takes : is_name_start c ≡ true → lexing.name (c ∷ cs) ≡ Gives t rest → length rest < suc (length cs)
  name_takes h e =
      let r = read_on (lexing.run_of is_name_character (c ∷ cs)) lexing.name_of t rest e in
      let here : is_name_character c ≡ true = ap (λ b. b || is_digit c || (c == 46) || (c == 45)) h in
      omega (arith, run_shrinks is_name_character c cs r.0 r.1 here r.2, (name_of_keeps r.0).no_longer r.1 t rest r.3)

  number_takes : is_digit c ≡ true → lexing.number (c ∷ cs) ≡ Gives t rest → length rest < suc (length cs)
  number_takes h e =
      let r = read_on (lexing.run_of is_digit (c ∷ cs)) lexing.number_of t rest e in
      omega (arith, run_shrinks is_digit c cs r.0 r.1 h r.2, (number_of_keeps r.0).no_longer r.1 t rest r.3)

  string_takes : (quote : ℕ) → lexing.string quote (c ∷ cs) ≡ Gives t rest → length rest < suc (length cs)
  string_takes quote e = omega (arith, (rest_of_string_keeps quote).no_longer cs t rest e)

  mark_takes : lexing.marked (first_of marks (c ∷ cs)) (c ∷ cs) ≡ Gives t rest → length rest < suc (length cs)
  mark_takes e = one (first_kind pairs (c ∷ cs)) (first_kind singles (c ∷ cs)) refl refl
    where
      one : (o p : Option Kind) → first_kind pairs (c ∷ cs) ≡ o → first_kind singles (c ∷ cs) ≡ p → length rest < suc (length cs)
      one (Some k) p h g =
          let same = gives_rest (lexing.mark_token k) t (drop 2 (c ∷ cs)) rest (sym (pair_found (c ∷ cs) k h) ∙ e) in omega (arith, ap length same, length-drop 2 (c ∷ cs))
      one None (Some k) h g =
          let same = gives_rest (lexing.mark_token k) t (drop 1 (c ∷ cs)) rest (sym (single_found (c ∷ cs) k h g) ∙ e) in omega (arith, ap length same, length-drop 1 (c ∷ cs))
      one None None h g = absurd (let none = none_found (c ∷ cs) h g in let f : ⊥ = cc in f)

  either : {Q : Type 0} (b : Bool) (x y : Read Token) → (b ≡ true → x ≡ Gives t rest → Q) → (y ≡ Gives t rest → Q) → cond b x y ≡ Gives t rest → Q
  either true x y p q e = p refl e
  either false x y p q e = q e

  some_takes : lexing.token (c ∷ cs) ≡ Gives t rest → length rest < suc (length cs)
  some_takes e =
      either (is_name_start c) (lexing.name (c ∷ cs)) _ name_takes
      (either (is_digit c) (lexing.number (c ∷ cs)) _ number_takes
      (either (c == 34) (lexing.string 34 (c ∷ cs)) _ (λ _. string_takes 34)
      (either (c == 39) (lexing.string 39 (c ∷ cs)) _ (λ _. string_takes 39) mark_takes))) e

token_takes : (text : List ℕ) (t : Token) (rest : List ℕ) → lexing.is_left text ≡ true → lexing.token text ≡ Gives t rest → length rest < length text
token_takes [] t rest h e = absurd (let f : ⊥ = cc in f)
token_takes (c ∷ cs) t rest h e = some_takes c cs t rest e

pub next_token_takes : (found : List Token) (text : List ℕ) (more : List Token) (rest : List ℕ) → lexing.is_left text ≡ true → lexing.next_token found text ≡ Gives more rest → length rest < length text
next_token_takes found text more rest h e =
    let r = read_on (lexing.token text) (λ t. lexing.separators >> pure (found ++ t ∷ [])) more rest e in
    let s = (keeps_bind separators_keep (λ _. keeps_pure (found ++ r.0 ∷ []))).no_longer r.1 more rest r.3 in
    omega (arith, token_takes text r.0 r.1 h r.2, s)

pub nothing_left : (text : List ℕ) → lexing.is_left text ≡ false → text ≡ []
nothing_left [] h = refl
nothing_left (c ∷ cs) h = absurd (let f : ⊥ = cc in f)

pub no_text : (text : List ℕ) → length text ≤ 0 → text ≡ []
no_text [] h = refl
no_text (c ∷ cs) h = absurd (omega arith)
