-- What the strings of a text are made of.
use Rattle.std.proofs.Common.{◌≡◌, ℕ, zero, suc, Bool, true, false, ◌&&◌, ◌==◌, nat_lt, cond, List, [], ◌∷◌, ◌++◌, length, codes, Option, Some, None, refl, ap, ap₂, subst, sym, ◌∙◌, arith, append-nil, append_assoc}
use Rattle.std.proofs.lemmas.Bool.Decides.{nat_tests}
use Rattle.std.proofs.lemmas.List.Folds.{list_all-append}
use Rattle.std.specs.Char.{encode_utf8}
use Rattle.std.specs.List.{list_all}
use Rattle.std.specs.Str.{encode_utf8_all}
use Rattle.data_model.specs.Limits.{most_bytes}
use Rattle.document_names.specs.Characters.{is_digit, is_xml_character}
use Rattle.fault_codes.specs.declared.code.Code.{Code}
use Rattle.fault_codes.specs.declared.code.Code.TheVariants.{XPST0003, XQST0090, PXQ0002}
use Rattle.query_tokens.specs.Reading.{Read, Gives, Fails, Reader, on_read, ◌>>=◌, ◌>>◌, pure, fails, begins, first_of, skip, mark, such, rounds}
use Rattle.query_tokens.specs.Lexing as lexing
use Rattle.query_laws.specs.Written.{IsXmlString}

-- what a reader gives is such
pub record Makes {A : Type 0} (P : A → Type 0) (p : Reader A) : Type 0 where
  pub made : (text : List ℕ) (a : A) (rest : List ℕ) → p text ≡ Gives a rest → P a

gives_value : {A : Type 0} (a b : A) (r s : List ℕ) → Gives a r ≡ Gives b s → a ≡ b
gives_value a b r s e = cc

pub read_on : {A B : Type 0} (r : Read A) (f : A → Reader B) (b : B) (rest : List ℕ) → on_read r f ≡ Gives b rest → (a : A) × (mid : List ℕ) × (r ≡ Gives a mid) × (f a mid ≡ Gives b rest)
read_on (Gives a mid) f b rest e = (a, mid, refl, e)
read_on (Fails code) f b rest e = absurd (let h : ⊥ = cc in h)

pub makes_pure : {A : Type 0} (P : A → Type 0) (a : A) → P a → Makes P (pure a)
makes_pure P a h = record { made = λ text b rest e. subst P (gives_value a b text rest e) h }

pub makes_fails : {A : Type 0} (P : A → Type 0) (code : Code) → Makes P (fails code)
makes_fails P code = record { made = λ text b rest e. absurd (let h : ⊥ = cc in h) }

pub makes_bind : {A B : Type 0} {P : A → Type 0} {Q : B → Type 0} {p : Reader A} {f : A → Reader B} → Makes P p → ((a : A) → P a → Makes Q (f a)) → Makes Q (p >>= f)
makes_bind {p = p} {f = f} k l = record {
  made = λ text b rest e. let h = read_on (p text) f b rest e in (l h.0 (k.made text h.0 h.1 h.2)).made h.1 b rest h.3;
}

pub any : {A : Type 0} (p : Reader A) → Makes (λ _. Unit {0}) p
any p = record { made = λ text a rest e. tt }

pub makes_after : {A B : Type 0} {Q : B → Type 0} (p : Reader A) {q : Reader B} → Makes Q q → Makes Q (p >> q)
makes_after p k = makes_bind (any p) (λ a h. k)

pub makes_if : {A : Type 0} {P : A → Type 0} {p q : Reader A} (test : List ℕ → Bool) → Makes P p → Makes P q → Makes P (λ text. cond (test text) (p text) (q text))
makes_if {P = P} {p = p} {q = q} test k l = record { made = λ text a rest e. one (test text) text a rest e }
  where
    one : (t : Bool) (text : List ℕ) (a : _) (rest : List ℕ) → cond t (p text) (q text) ≡ Gives a rest → P a
    one true text a rest e = k.made text a rest e
    one false text a rest e = l.made text a rest e

-- a loop each of whose steps keeps it
module _ {A : Type 0} (P : A → Type 0) (goes : A → List ℕ → Bool) (step : A → Reader A) (k : (a : A) → P a → Makes P (step a)) where
  pub turns_make : (n : ℕ) (a : A) (text : List ℕ) (b : A) (rest : List ℕ) → P a → rounds goes step n a text ≡ Gives b rest → P b
  unfolding rounds
  turns_make zero a text b rest h e = subst P (gives_value a b text rest e) h
  turns_make (suc n) a text b rest h e = one (goes a text) (rounds goes step n) (λ c mid. turns_make n c mid b rest) e
    where
      one : (t : Bool) (more : A → Reader A) → ((c : A) (mid : List ℕ) → P c → more c mid ≡ Gives b rest → P b) → cond t (on_read (step a text) (λ c mid. more c mid)) (Gives a text) ≡ Gives b rest → P b
      one true more ih e = let r = read_on (step a text) (λ c mid. more c mid) b rest e in ih r.0 r.1 ((k a h).made text r.0 r.1 r.2) r.3
      one false more ih e = subst P (gives_value a b text rest e) h

  pub makes_repeat : (a : A) → P a → Makes P (λ text. rounds goes step (length text) a text)
  makes_repeat a h = record { made = λ text b rest e. turns_make (length text) a text b rest h e }

-- Characters.

abbrev pub IsXml : ℕ → Type 0
IsXml c = is_xml_character c ≡ true

pub makes_such : (p : ℕ → Bool) → Makes (λ c. p c ≡ true) (such p)
makes_such p = record { made = one }
  where
    one : (text : List ℕ) (a : ℕ) (rest : List ℕ) → such p text ≡ Gives a rest → p a ≡ true
    one [] a rest e = absurd (let h : ⊥ = cc in h)
    one (c ∷ cs) a rest e = two (p c) refl e
      where
        two : (t : Bool) → p c ≡ t → cond t (Gives c cs) (Fails XPST0003) ≡ Gives a rest → p a ≡ true
        two true h e = ap p (sym (gives_value c a cs rest e)) ∙ h
        two false h e = absurd (let h : ⊥ = cc in h)

makes_character_of : (base : ℕ) (digits : List ℕ) → Makes IsXml (lexing.character_of base digits)
makes_character_of base digits = record { made = λ text a rest e. one (length digits == 0) (is_xml_character (lexing.value_of base digits)) refl text a rest e }
  where
    one : (t u : Bool) → is_xml_character (lexing.value_of base digits) ≡ u → (text : List ℕ) (a : ℕ) (rest : List ℕ)
        → cond t (Fails XPST0003) (cond u (Gives (lexing.value_of base digits) text) (Fails XQST0090)) ≡ Gives a rest → IsXml a
    one true u h text a rest e = absurd (let f : ⊥ = cc in f)
    one false true h text a rest e = subst IsXml (gives_value (lexing.value_of base digits) a text rest e) h
    one false false h text a rest e = absurd (let f : ⊥ = cc in f)

makes_code_point : (base : ℕ) (p : ℕ → Bool) → Makes IsXml (lexing.code_point base p)
makes_code_point base p = makes_bind (any (lexing.run_of p)) (λ digits h. makes_after (mark (codes ";")) (makes_character_of base digits))

abbrev is_entity : Option (List ℕ × ℕ) → Type 0
is_entity None = Unit {0}
is_entity (Some e) = IsXml e.1

entity_found : (es : List (List ℕ × ℕ)) (text : List ℕ) → list_all (λ e. is_xml_character e.1) es ≡ true → is_entity (first_of es text)
entity_found [] text h = tt
entity_found (e ∷ es) text h = one (begins e.0 text) (is_xml_character e.1) refl (entity_found es text) h
  where
    one : (t u : Bool) → is_xml_character e.1 ≡ u → (list_all (λ e. is_xml_character e.1) es ≡ true → is_entity (first_of es text)) → u && list_all (λ e. is_xml_character e.1) es ≡ true → is_entity (cond t (Some e) (first_of es text))
    one true true g more h = g
    one true false g more h = absurd (let f : ⊥ = cc in f)
    one false true g more h = more h
    one false false g more h = absurd (let f : ⊥ = cc in f)

makes_named : (o : Option (List ℕ × ℕ)) → is_entity o → Makes IsXml (lexing.named o)
makes_named None h = makes_fails IsXml XPST0003
makes_named (Some e) h = makes_after (skip (length e.0)) (makes_pure IsXml e.1 h)

makes_entity : Makes IsXml (λ text. lexing.named (first_of lexing.entities text) text)
makes_entity = record { made = λ text a rest e. (makes_named (first_of lexing.entities text) (entity_found lexing.entities text refl)).made text a rest e }

makes_reference : Makes IsXml lexing.reference
makes_reference = makes_if (begins (codes "&#x")) (makes_after (skip 3) (makes_code_point 16 lexing.is_hex_digit)) (makes_if (begins (codes "&#")) (makes_after (skip 2) (makes_code_point 10 is_digit)) makes_entity)

module _ (quote : ℕ) (q : IsXml quote) where
  makes_content_character : Makes IsXml (lexing.content_character quote)
  makes_content_character = makes_if (lexing.goes_on (λ c. c == quote)) (makes_after (skip 2) (makes_pure IsXml quote q)) (makes_if (lexing.goes_on (λ c. c == 38)) makes_reference (makes_such is_xml_character))

-- Strings.

one_more : (cs : List ℕ) (c : ℕ) → encode_utf8_all cs ++ encode_utf8 c ≡ encode_utf8_all (cs ++ c ∷ [])
one_more [] c = sym (append-nil (encode_utf8 c))
one_more (d ∷ cs) c = append_assoc (encode_utf8 d) (encode_utf8_all cs) (encode_utf8 c) ∙ ap (λ bs. encode_utf8 d ++ bs) (one_more cs c)

all_and : (cs : List ℕ) (c : ℕ) → list_all is_xml_character cs ≡ true → IsXml c → list_all is_xml_character (cs ++ c ∷ []) ≡ true
all_and cs c h g = list_all-append is_xml_character cs (c ∷ []) ∙ ap₂ (λ a b. a && (b && true)) h g

longer_string : (content : List ℕ) (c : ℕ) → IsXmlString content → IsXml c → nat_lt most_bytes (length (content ++ encode_utf8 c)) ≡ false → IsXmlString (content ++ encode_utf8 c)
longer_string content c s g h = record {
  characters = s.characters ++ c ∷ [];
  allowed = all_and s.characters c s.allowed g;
  utf8 = ap (λ bs. bs ++ encode_utf8 c) s.utf8 ∙ one_more s.characters c;
  short = grind (arith, nat_tests);
}

makes_longer : (content : List ℕ) (c : ℕ) → IsXmlString content → IsXml c → Makes IsXmlString (lexing.longer content c)
makes_longer content c s g = one (nat_lt most_bytes (length (content ++ encode_utf8 c))) refl
  where
    one : (t : Bool) → nat_lt most_bytes (length (content ++ encode_utf8 c)) ≡ t → Makes IsXmlString (cond t (fails PXQ0002) (pure (content ++ encode_utf8 c)))
    one true h = makes_fails IsXmlString PXQ0002
    one false h = makes_pure IsXmlString _ (longer_string content c s g h)

nothing : IsXmlString []
nothing = record { characters = []; allowed = refl; utf8 = refl; short = omega arith }

pub makes_contents : (quote : ℕ) → IsXml quote → Makes IsXmlString (lexing.contents quote)
makes_contents quote q = makes_repeat IsXmlString (λ _ text. lexing.is_in_string quote text) (lexing.more_content quote)
    (λ content s. makes_bind (makes_content_character quote q) (λ c g. makes_longer content c s g)) [] nothing
