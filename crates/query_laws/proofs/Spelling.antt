-- Tokens that are spelt so are read.
use Rattle.std.proofs.Common.{◌≡◌, ◌≢◌, ◌≤◌, ◌⊎◌, inl, inr, ℕ, zero, suc, ◌+◌, ◌-◌, Bool, true, false, not, ◌||◌, ◌&&◌, ◌==◌, nat_lt, cond, List, [], ◌∷◌, ◌++◌, length, drop, codes, slice_get, Some, refl, ap, subst, sym, ◌∙◌, arith}
use Rattle.std.proofs.lemmas.Bool.{le-ltb}
use Rattle.std.proofs.lemmas.Bool.Decides.{nat_tests}
use Rattle.std.proofs.lemmas.List.{length-append, append_assoc, append-nil}
use Rattle.std.specs.List.{list_all}
use Rattle.node_table.proofs.Ups.{same-ids}
use Rattle.data_model.specs.Limits.{most_bytes}
use Rattle.fault_codes.specs.declared.code.Code.TheVariants.{XPST0003, XQST0090, PXQ0002}
use Rattle.document_names.specs.Characters.{is_digit, is_name_start, is_name_character, is_xml_character}
use Rattle.query_tokens.specs.Limits.{max_integer}
use Rattle.query_tokens.specs.Reading.{Read, Gives, Fails, Reader, on_read, ◌>>=◌, ◌>>◌, pure, fails, begins, first_of, skip, mark, such, rounds}
use Rattle.query_tokens.specs.Lexing as lexing
use Rattle.query_tokens.specs.Words.{kind_of, marks, pairs, singles}
use Rattle.query_tokens.specs.declared.kind.Kind.{Kind}
use Rattle.query_tokens.specs.declared.kind.Kind.TheVariants as kind
use Rattle.query_tokens.specs.declared.token.Token.{Token}
use Rattle.std.specs.Str.{bytes_eq}
use Rattle.std.specs.Char.{encode_utf8}
use Rattle.std.proofs.lemmas.Option.{none-some, same_Some}
use Rattle.query_laws.specs.Spelling as spelling
use Rattle.query_laws.specs.Spelling.{EndsComment, IsSeparation, IsContent, IsSpeltToken, IsApart, AreSpelt, IsSpeltAs}

-- Rounds of a reader.

round_on : {A : Type 0} (goes : A → List ℕ → Bool) (step : A → Reader A) (n : ℕ) (a : A) (text : List ℕ) → goes a text ≡ true
    → rounds goes step (suc n) a text ≡ on_read (step a text) (λ b rest. rounds goes step n b rest)
unfolding rounds
round_on goes step n a text h = ap (λ t. cond t (on_read (step a text) (λ b rest. rounds goes step n b rest)) (Gives a text)) h

round_off : {A : Type 0} (goes : A → List ℕ → Bool) (step : A → Reader A) (n : ℕ) (a : A) (text : List ℕ) → goes a text ≡ false → rounds goes step n a text ≡ Gives a text
unfolding rounds
round_off goes step zero a text h = refl
round_off goes step (suc n) a text h = ap (λ t. cond t (on_read (step a text) (λ b rest. rounds goes step n b rest)) (Gives a text)) h

-- a step that gives a value
round_given : {A : Type 0} (goes : A → List ℕ → Bool) (step : A → Reader A) (n : ℕ) (a b : A) (text rest : List ℕ) → goes a text ≡ true → step a text ≡ Gives b rest
    → rounds goes step (suc n) a text ≡ rounds goes step n b rest
round_given goes step n a b text rest h e = round_on goes step n a text h ∙ ap (λ r. on_read r (λ c more. rounds goes step n c more)) e

-- of two that are true together each is
and_both : (a b : Bool) → a && b ≡ true → (a ≡ true) × (b ≡ true)
and_both true b h = (refl, h)
and_both false b h = absurd (let f : ⊥ = cc in f)

-- Comments.

abbrev inside : ℕ → ℕ → List ℕ → Read ℕ
inside n depth text = rounds lexing.is_inside lexing.comment_part n depth text

-- after the text so many steps at least are left, and the comment goes on one level higher
pub record LeavesOff (n k : ℕ) (cs after : List ℕ) : Type 0 where
  pub left : ℕ
  pub enough : n ≤ left + length cs
  pub same : inside n (suc k) (cs ++ after) ≡ inside left k after

is_deep : (k c : ℕ) (text : List ℕ) → lexing.is_inside (suc k) (c ∷ text) ≡ true
is_deep k c text = grind (arith, nat_tests)

record NotEmpty (cs : List ℕ) : Type 0 where
  pub head : ℕ
  pub tail : List ℕ
  pub is : cs ≡ head ∷ tail

not_empty : (cs : List ℕ) → EndsComment cs → NotEmpty cs
not_empty cs spelling.End = record { head = 58; tail = 41 ∷ []; is = refl }
not_empty cs (spelling.Character c ds h f g e) = record { head = c; tail = ds; is = refl }
not_empty cs (spelling.Inner ds es h g) = record { head = 40; tail = 58 ∷ ds ++ es; is = refl }

-- two characters tell what two characters are, whatever follows
same_two : (a b c : ℕ) (cs after : List ℕ) → NotEmpty cs → begins (a ∷ b ∷ []) (c ∷ cs ++ after) ≡ begins (a ∷ b ∷ []) (c ∷ cs)
same_two a b c cs after h = ap (λ xs. begins (a ∷ b ∷ []) (c ∷ xs ++ after)) h.is ∙ ap (λ xs. begins (a ∷ b ∷ []) (c ∷ xs)) (sym h.is)

one_character : (d c : ℕ) (text : List ℕ) → is_xml_character c ≡ true → begins (codes "(:") (c ∷ text) ≡ false → begins (codes ":)") (c ∷ text) ≡ false → lexing.comment_part d (c ∷ text) ≡ Gives d text
one_character d c text h f g =
    ap (λ t. cond t (Gives (suc d) (drop 2 (c ∷ text))) (cond (begins (codes ":)") (c ∷ text)) (Gives (d - 1) (drop 2 (c ∷ text))) (on_read (cond (is_xml_character c) (Gives c text) (Fails XPST0003)) (λ _. pure d)))) f
    ∙ ap (λ t. cond t (Gives (d - 1) (drop 2 (c ∷ text))) (on_read (cond (is_xml_character c) (Gives c text) (Fails XPST0003)) (λ _. pure d))) g
    ∙ ap (λ t. on_read (cond t (Gives c text) (Fails XPST0003)) (λ _. pure d)) h

leaves_off : (cs : List ℕ) → EndsComment cs → (n k : ℕ) (after : List ℕ) → length cs ≤ n → LeavesOff n k cs after
leaves_off cs spelling.End zero k after le = absurd (omega (arith, le))
leaves_off cs spelling.End (suc n) k after le = record {
  left = n;
  enough = omega arith;
  same = round_given lexing.is_inside lexing.comment_part n (suc k) (suc k - 1) (58 ∷ 41 ∷ after) after (is_deep k 58 (41 ∷ after)) refl ∙ ap (λ d. inside n d after) (omega arith);
}
leaves_off cs (spelling.Character c ds h f g e) zero k after le = absurd (omega (arith, le))
leaves_off cs (spelling.Character c ds h f g e) (suc n) k after le =
    let more = leaves_off ds e n k after (omega (arith, le)) in
    let some = not_empty ds e in
    let m = more.enough in
    record {
      left = more.left;
      enough = omega (arith, m);
      same =
          round_given lexing.is_inside lexing.comment_part n (suc k) (suc k) (c ∷ ds ++ after) (ds ++ after) (is_deep k c (ds ++ after))
          (one_character (suc k) c (ds ++ after) h (same_two 40 58 c ds after some ∙ f) (same_two 58 41 c ds after some ∙ g)) ∙ more.same;
    }
leaves_off cs (spelling.Inner ds es h g) zero k after le = absurd (omega (arith, le))
leaves_off cs (spelling.Inner ds es h g) (suc n) k after le =
    let both = length-append ds es in
    let first = leaves_off ds h n (suc k) (es ++ after) (omega (arith, le, both)) in
    let p = first.enough in
    let second = leaves_off es g first.left k after (omega (arith, le, both, p)) in
    let q = second.enough in
    record {
      left = second.left;
      enough = omega (arith, both, p, q);
      same =
          round_given lexing.is_inside lexing.comment_part n (suc k) (suc (suc k)) (40 ∷ 58 ∷ (ds ++ es) ++ after) ((ds ++ es) ++ after) (is_deep k 40 (58 ∷ (ds ++ es) ++ after)) refl
          ∙ ap (inside n (suc (suc k))) (append_assoc ds es after) ∙ first.same ∙ second.same;
    }

comment_read : (cs after : List ℕ) → EndsComment cs → lexing.comment (40 ∷ 58 ∷ cs ++ after) ≡ Gives tt after
comment_read cs after e =
    let l = leaves_off cs e (length (cs ++ after)) 0 after (let both = length-append cs after in omega (arith, both)) in
    let ended : inside (length (cs ++ after)) 1 (cs ++ after) ≡ Gives 0 after = l.same ∙ round_off lexing.is_inside lexing.comment_part l.left 0 after refl in
    ap (λ r. on_read r (λ depth. cond (depth == 0) (pure tt) (fails XPST0003))) ended

-- Separators.

-- characters that names, numbers and marks go not on with
pub data Ends : ℕ → Type 0 where
  Blank : Ends 32
  Tab : Ends 9
  Feed : Ends 10
  Return : Ends 13
  Paren : Ends 40

space_ends : (c : ℕ) → lexing.is_space c ≡ true → Ends c
space_ends c h = one (c == 32) refl (c == 9) refl (c == 10) refl (c == 13) refl h
  where
    one : (p : Bool) → (c == 32) ≡ p → (q : Bool) → (c == 9) ≡ q → (r : Bool) → (c == 10) ≡ r → (s : Bool) → (c == 13) ≡ s → p || (q || (r || s)) ≡ true → Ends c
    one true e q f r g s k h = subst Ends (sym (same-ids c 32 e)) Blank
    one false e true f r g s k h = subst Ends (sym (same-ids c 9 f)) Tab
    one false e false f true g s k h = subst Ends (sym (same-ids c 10 g)) Feed
    one false e false f false g true k h = subst Ends (sym (same-ids c 13 k)) Return
    one false e false f false g false k h = absurd (let b : ⊥ = cc in b)

-- a space begins no comment
space_alone : (c : ℕ) (text : List ℕ) → Ends c → lexing.is_space c ≡ true → begins (codes "(:") (c ∷ text) ≡ false
space_alone c text Blank h = refl
space_alone c text Tab h = refl
space_alone c text Feed h = refl
space_alone c text Return h = refl
space_alone c text Paren h = absurd (let b : ⊥ = cc in b)

abbrev separated : ℕ → List ℕ → Read (Unit {0})
separated n text = rounds (λ _ text. lexing.is_separated text) (λ _. lexing.separator) n tt text

separators_read : (w rest : List ℕ) → IsSeparation w → lexing.is_separated rest ≡ false → (n : ℕ) → length w ≤ n → separated n (w ++ rest) ≡ Gives tt rest
separators_read w rest spelling.NoSeparator h n le = round_off (λ _ text. lexing.is_separated text) (λ _. lexing.separator) n tt rest h
separators_read w rest (spelling.Space c cs e s) h zero le = absurd (omega (arith, le))
separators_read w rest (spelling.Space c cs e s) h (suc n) le =
    round_given (λ _ text. lexing.is_separated text) (λ _. lexing.separator) n tt tt (c ∷ cs ++ rest) (cs ++ rest) (ap (λ b. b || begins (codes "(:") (c ∷ cs ++ rest)) e)
    (ap (λ b. cond b (lexing.comment (c ∷ cs ++ rest)) (Gives tt (cs ++ rest))) (space_alone c (cs ++ rest) (space_ends c e) e))
    ∙ separators_read cs rest s h n (omega (arith, le))
separators_read w rest (spelling.Comment cs ds c s) h zero le = absurd (omega (arith, le))
separators_read w rest (spelling.Comment cs ds c s) h (suc n) le =
    let both = length-append cs ds in
    round_given (λ _ text. lexing.is_separated text) (λ _. lexing.separator) n tt tt (40 ∷ 58 ∷ (cs ++ ds) ++ rest) (ds ++ rest) refl
    (ap (λ text. lexing.comment (40 ∷ 58 ∷ text)) (append_assoc cs ds rest) ∙ comment_read cs (ds ++ rest) c)
    ∙ separators_read ds rest s h n (omega (arith, le, both))

-- Runs of characters.

-- what may come after a token that is alone
pub data Follows : List ℕ → Type 0 where
  AtEnd : Follows []
  AtSeparator : (c : ℕ) (cs : List ℕ) → Ends c → Follows (c ∷ cs)

run_read : (p : ℕ → Bool) (front after : List ℕ) → list_all p front ≡ true → lexing.goes_on p after ≡ false → (n : ℕ) (found : List ℕ) → length front ≤ n
    → rounds (λ _ text. lexing.goes_on p text) (λ found. such p >>= (λ c. pure (found ++ c ∷ []))) n found (front ++ after) ≡ Gives (found ++ front) after
run_read p [] after h stop n found le = round_off (λ _ text. lexing.goes_on p text) (λ found. such p >>= (λ c. pure (found ++ c ∷ []))) n found after stop ∙ ap (λ xs. Gives xs after) (sym (append-nil found))
run_read p (c ∷ cs) after h stop zero found le = absurd (omega (arith, le))
run_read p (c ∷ cs) after h stop (suc n) found le =
    let both = and_both (p c) (list_all p cs) h in
    round_given (λ _ text. lexing.goes_on p text) (λ found. such p >>= (λ c. pure (found ++ c ∷ []))) n found (found ++ c ∷ []) (c ∷ cs ++ after) (cs ++ after) both.0
    (ap (λ b. on_read (cond b (Gives c (cs ++ after)) (Fails XPST0003)) (λ d. pure (found ++ d ∷ []))) both.0)
    ∙ run_read p cs after both.1 stop n (found ++ c ∷ []) (omega (arith, le)) ∙ ap (λ xs. Gives xs after) (append_assoc found (c ∷ []) cs)

whole_run : (p : ℕ → Bool) (front after : List ℕ) → list_all p front ≡ true → lexing.goes_on p after ≡ false → lexing.run_of p (front ++ after) ≡ Gives front after
whole_run p front after h stop = run_read p front after h stop (length (front ++ after)) [] (let both = length-append front after in omega (arith, both))

-- Tokens.

digit_no_start : (d : ℕ) → is_digit d ≡ true → is_name_start d ≡ false
digit_no_start d h = grind (arith, nat_tests)

start_goes_on : (c : ℕ) → is_name_start c ≡ true → is_name_character c ≡ true
start_goes_on c h = ap (λ b. ((b || is_digit c) || (c == 46)) || (c == 45)) h

no_character_no_start : (c : ℕ) → is_name_character c ≡ false → is_name_start c ≡ false
no_character_no_start c h = one (is_name_start c) h
  where
    one : (b : Bool) → ((b || is_digit c) || (c == 46)) || (c == 45) ≡ false → b ≡ false
    one true e = absurd (let f : ⊥ = cc in f)
    one false e = refl

no_character_no_digit : (c : ℕ) → is_name_character c ≡ false → is_digit c ≡ false
no_character_no_digit c h = one (is_name_start c) (is_digit c) h
  where
    one : (a b : Bool) → ((a || b) || (c == 46)) || (c == 45) ≡ false → b ≡ false
    one true b e = absurd (let f : ⊥ = cc in f)
    one false true e = absurd (let f : ⊥ = cc in f)
    one false false e = refl

-- no name goes on after a token that is alone
ends_no_name : (c : ℕ) → Ends c → is_name_character c ≡ false
ends_no_name c Blank = refl
ends_no_name c Tab = refl
ends_no_name c Feed = refl
ends_no_name c Return = refl
ends_no_name c Paren = refl

comment_ends : (c : ℕ) (cs : List ℕ) → begins (codes "(:") (c ∷ cs) ≡ true → Ends c
comment_ends c cs h = one (c == 40) refl
  where
    one : (b : Bool) → (c == 40) ≡ b → Ends c
    one true e = subst Ends (sym (same-ids c 40 e)) Paren
    one false e = absurd (let f : ⊥ = grind (arith, nat_tests) in f)

no_name_after : (token after : List ℕ) → IsApart token after → lexing.goes_on is_name_character after ≡ false
no_name_after token [] h = refl
no_name_after token (d ∷ ds) (inl h) = ends_no_name d (space_ends d h)
no_name_after token (d ∷ ds) (inr (inl h)) = ends_no_name d (comment_ends d ds h)
no_name_after token (d ∷ ds) (inr (inr h)) = h.1

goes_off : (p q : ℕ → Bool) (after : List ℕ) → ((c : ℕ) → p c ≡ false → q c ≡ false) → lexing.goes_on p after ≡ false → lexing.goes_on q after ≡ false
goes_off p q [] f h = refl
goes_off p q (d ∷ ds) f h = f d h

-- after a string or a mark, which is no name and no number, comes nothing or a separator
follows : (token after : List ℕ) → lexing.goes_on (λ c. is_name_start c || is_digit c) token ≡ false → IsApart token after → Follows after
follows token [] n h = AtEnd
follows token (d ∷ ds) n (inl h) = AtSeparator d ds (space_ends d h)
follows token (d ∷ ds) n (inr (inl h)) = AtSeparator d ds (comment_ends d ds h)
follows token (d ∷ ds) n (inr (inr h)) = absurd (let f : ⊥ = cc (n, h.0) in f)

word_read : (c : ℕ) (cs after : List ℕ) → is_name_start c ≡ true → list_all is_name_character cs ≡ true → bytes_eq (c ∷ cs) (codes "xmlns") ≡ false → IsApart (c ∷ cs) after
    → lexing.token (c ∷ cs ++ after) ≡ Gives (record { kind = kind_of (c ∷ cs); text = c ∷ cs; number = 0 }) after
word_read c cs after h all other apart =
    let token : Token = record { kind = kind_of (c ∷ cs); text = c ∷ cs; number = 0 } in
    ap (λ b. cond b (lexing.name (c ∷ cs ++ after)) (cond (is_digit c) (lexing.number (c ∷ cs ++ after)) (cond (c == 34) (lexing.string 34 (c ∷ cs ++ after)) (cond (c == 39) (lexing.string 39 (c ∷ cs ++ after)) (lexing.marked (first_of marks (c ∷ cs ++ after)) (c ∷ cs ++ after)))))) h
    ∙ ap (λ r. on_read r lexing.name_of) (whole_run is_name_character (c ∷ cs) after (ap (λ b. b && list_all is_name_character cs) (start_goes_on c h) ∙ all) (no_name_after (c ∷ cs) after apart))
    ∙ ap (λ b. cond b (fails XPST0003) (pure token) after) other

number_read : (d : ℕ) (ds after : List ℕ) → list_all is_digit (d ∷ ds) ≡ true → lexing.decimal_of (d ∷ ds) ≤ max_integer → IsApart (d ∷ ds) after
    → lexing.token (d ∷ ds ++ after) ≡ Gives (record { kind = kind.Number; text = []; number = lexing.decimal_of (d ∷ ds) }) after
number_read d ds after all le apart =
    let digit = (and_both (is_digit d) (list_all is_digit ds) all).0 in
    let none = no_name_after (d ∷ ds) after apart in
    let token : Token = record { kind = kind.Number; text = []; number = lexing.decimal_of (d ∷ ds) } in
    ap (λ b. cond b (lexing.name (d ∷ ds ++ after)) (cond (is_digit d) (lexing.number (d ∷ ds ++ after)) (cond (d == 34) (lexing.string 34 (d ∷ ds ++ after)) (cond (d == 39) (lexing.string 39 (d ∷ ds ++ after)) (lexing.marked (first_of marks (d ∷ ds ++ after)) (d ∷ ds ++ after)))))) (digit_no_start d digit)
    ∙ ap (λ b. cond b (lexing.number (d ∷ ds ++ after)) (cond (d == 34) (lexing.string 34 (d ∷ ds ++ after)) (cond (d == 39) (lexing.string 39 (d ∷ ds ++ after)) (lexing.marked (first_of marks (d ∷ ds ++ after)) (d ∷ ds ++ after))))) digit
    ∙ ap (λ r. on_read r lexing.number_of) (whole_run is_digit (d ∷ ds) after all (goes_off is_name_character is_digit after no_character_no_digit none))
    ∙ ap (λ b. cond (b || nat_lt max_integer (lexing.decimal_of (d ∷ ds))) (Fails XPST0003) (Gives token after)) (goes_off is_name_character is_name_start after no_character_no_start none)
    ∙ ap (λ b. cond b (Fails XPST0003) (Gives token after)) (le-ltb max_integer (lexing.decimal_of (d ∷ ds)) le)

-- Strings.

abbrev pub AllOf : {A : Type 0} → (A → Type 0) → List A → Type 0
AllOf P [] = Unit {0}
AllOf P (x ∷ xs) = P x × AllOf P xs

one_of : {A : Type 0} (P : A → Type 0) (xs : List A) (k : ℕ) (x : A) → AllOf P xs → slice_get xs k ≡ Some x → P x
one_of P [] k x all e = absurd (none-some x e)
one_of P (y ∷ ys) zero x all e = subst P (same_Some y x e) all.0
one_of P (y ∷ ys) (suc k) x all e = one_of P ys k x all.1 e

-- a reference by name, whatever follows it
record IsReference (e : List ℕ × ℕ) : Type 0 where
  pub read : (cs : List ℕ) → lexing.reference (e.0 ++ cs) ≡ Gives e.1 cs
  pub tail : List ℕ
  pub is : e.0 ≡ 38 ∷ tail

all_references : AllOf IsReference lexing.entities
all_references = (
  record { read = λ cs. refl; tail = codes "lt;"; is = refl },
  (
    record { read = λ cs. refl; tail = codes "gt;"; is = refl },
    (
      record { read = λ cs. refl; tail = codes "amp;"; is = refl },
      (record { read = λ cs. refl; tail = codes "quot;"; is = refl }, (record { read = λ cs. refl; tail = codes "apos;"; is = refl }, tt)),
    ),
  ),
)

-- a quote
data IsQuote : ℕ → Type 0 where
  Double : IsQuote 34
  Single : IsQuote 39

-- the content of a string, with a character more, is within the limit
longer_read : (found : List ℕ) (c : ℕ) (content rest : List ℕ) → length (found ++ (encode_utf8 c ++ content)) ≤ most_bytes → lexing.longer found c rest ≡ Gives (found ++ encode_utf8 c) rest
longer_read found c content rest le =
    let whole = length-append found (encode_utf8 c ++ content) in
    let part = length-append (encode_utf8 c) content in
    let front = length-append found (encode_utf8 c) in
    ap (λ b. cond b (fails PXQ0002) (pure (found ++ encode_utf8 c)) rest) (le-ltb most_bytes (length (found ++ encode_utf8 c)) (omega (arith, whole, part, front, le)))

abbrev content_from : ℕ → ℕ → List ℕ → List ℕ → Read (List ℕ)
content_from quote n found text = rounds (λ _ text. lexing.is_in_string quote text) (lexing.more_content quote) n found text

-- one character of the content, and then the rest of it
one_read : (quote n c : ℕ) (found content text rest : List ℕ) → lexing.is_in_string quote text ≡ true → lexing.content_character quote text ≡ Gives c rest
    → length (found ++ (encode_utf8 c ++ content)) ≤ most_bytes → content_from quote (suc n) found text ≡ content_from quote n (found ++ encode_utf8 c) rest
one_read quote n c found content text rest goes read le =
    round_given (λ _ text. lexing.is_in_string quote text) (lexing.more_content quote) n found (found ++ encode_utf8 c) text rest goes
    (ap (λ r. on_read r (lexing.longer found)) read ∙ longer_read found c content rest le)

-- What quotes enclose.

different : (a b : ℕ) → a ≢ b → (a == b) ≡ false
different a b h = one (a == b) refl
  where
    one : (t : Bool) → (a == b) ≡ t → t ≡ false
    one true e = absurd (h (same-ids a b e))
    one false e = refl

-- the quote ends the string where no other comes right after it
ends_string : (q : ℕ) (after : List ℕ) → IsQuote q → lexing.goes_on (λ c. c == q) after ≡ false → lexing.is_in_string q (q ∷ after) ≡ false
ends_string q [] Double h = refl
ends_string q [] Single h = refl
ends_string q (d ∷ ds) Double h = grind (arith, nat_tests)
ends_string q (d ∷ ds) Single h = grind (arith, nat_tests)

-- a character that goes on in a string, and how it is read
record IsNext (q c : ℕ) (text rest : List ℕ) : Type 0 where
  pub goes : lexing.is_in_string q text ≡ true
  pub read : lexing.content_character q text ≡ Gives c rest

doubled_next : (q : ℕ) (text : List ℕ) → IsQuote q → IsNext q q (q ∷ q ∷ text) text
doubled_next q text Double = record { goes = refl; read = refl }
doubled_next q text Single = record { goes = refl; read = refl }

reference_next : (q c : ℕ) (text rest : List ℕ) → IsQuote q → lexing.reference (38 ∷ text) ≡ Gives c rest → IsNext q c (38 ∷ text) rest
reference_next q c text rest Double h = record { goes = refl; read = h }
reference_next q c text rest Single h = record { goes = refl; read = h }

itself_next : (q c : ℕ) (text : List ℕ) → is_xml_character c ≡ true → c ≢ q → c ≢ 38 → IsNext q c (c ∷ text) text
itself_next q c text h f g = record {
  goes = ap (λ b. not b || begins (q ∷ q ∷ []) (c ∷ text)) (different c q f);
  read =
      ap (λ b. cond b ((skip 2 >> pure q) (c ∷ text)) (cond (c == 38) (lexing.reference (c ∷ text)) (cond (is_xml_character c) (Gives c text) (Fails XPST0003)))) (different c q f)
      ∙ ap (λ b. cond b (lexing.reference (c ∷ text)) (cond (is_xml_character c) (Gives c text) (Fails XPST0003))) (different c 38 g)
      ∙ ap (λ b. cond b (Gives c text) (Fails XPST0003)) h;
}

-- digits, and what closes them
closed_read : (base : ℕ) (p : ℕ → Bool) (d : ℕ) (ds rest : List ℕ) → list_all p (d ∷ ds) ≡ true → p 59 ≡ false → is_xml_character (lexing.value_of base (d ∷ ds)) ≡ true
    → lexing.code_point base p ((d ∷ ds) ++ (59 ∷ rest)) ≡ Gives (lexing.value_of base (d ∷ ds)) rest
closed_read base p d ds rest all stop xml =
    ap (λ r. on_read r (lexing.closed base)) (whole_run p (d ∷ ds) (59 ∷ rest) all stop)
    ∙ ap (λ b. cond b (Fails XPST0003) (cond (is_xml_character (lexing.value_of base (d ∷ ds))) (Gives (lexing.value_of base (d ∷ ds)) rest) (Fails XQST0090))) (different (length (d ∷ ds)) 0 (λ h. omega (arith, h)))
    ∙ ap (λ b. cond b (Gives (lexing.value_of base (d ∷ ds)) rest) (Fails XQST0090)) xml

no_x : (d : ℕ) (text : List ℕ) → is_digit d ≡ true → begins (codes "&#x") (38 ∷ 35 ∷ d ∷ text) ≡ false
no_x d text h = grind (arith, nat_tests)

decimal_read : (d : ℕ) (ds rest : List ℕ) → list_all is_digit (d ∷ ds) ≡ true → is_xml_character (lexing.value_of 10 (d ∷ ds)) ≡ true
    → lexing.reference (38 ∷ 35 ∷ (d ∷ ds) ++ (59 ∷ rest)) ≡ Gives (lexing.value_of 10 (d ∷ ds)) rest
decimal_read d ds rest all xml =
    ap (λ b. cond b ((skip 3 >> lexing.code_point 16 lexing.is_hex_digit) (38 ∷ 35 ∷ (d ∷ ds) ++ (59 ∷ rest))) (lexing.code_point 10 is_digit ((d ∷ ds) ++ (59 ∷ rest)))) (no_x d (ds ++ (59 ∷ rest)) (and_both (is_digit d) (list_all is_digit ds) all).0)
    ∙ closed_read 10 is_digit d ds rest all refl xml

hexadecimal_read : (d : ℕ) (ds rest : List ℕ) → list_all lexing.is_hex_digit (d ∷ ds) ≡ true → is_xml_character (lexing.value_of 16 (d ∷ ds)) ≡ true
    → lexing.reference (38 ∷ 35 ∷ 120 ∷ (d ∷ ds) ++ (59 ∷ rest)) ≡ Gives (lexing.value_of 16 (d ∷ ds)) rest
hexadecimal_read d ds rest all xml = closed_read 16 lexing.is_hex_digit d ds rest all refl xml

-- one character, and then the rest of the content
and_rest : (q n c : ℕ) (found content text rest after : List ℕ) → IsNext q c text rest → length (found ++ (encode_utf8 c ++ content)) ≤ most_bytes
    → (length ((found ++ encode_utf8 c) ++ content) ≤ most_bytes → content_from q n (found ++ encode_utf8 c) rest ≡ Gives ((found ++ encode_utf8 c) ++ content) after)
    → content_from q (suc n) found text ≡ Gives (found ++ (encode_utf8 c ++ content)) after
and_rest q n c found content text rest after next le more =
    let same = append_assoc found (encode_utf8 c) content in
    one_read q n c found content text rest next.goes next.read le ∙ more (subst (λ xs. length xs ≤ most_bytes) (sym same) le) ∙ ap (λ xs. Gives xs after) same

-- a reference by name, and then the rest of the content
named_read : (q n : ℕ) (e : List ℕ × ℕ) → IsReference e → (found content cs after : List ℕ) → IsQuote q → length cs + 1 ≤ n → length (found ++ (encode_utf8 e.1 ++ content)) ≤ most_bytes
    → ((m : ℕ) → length cs ≤ m → length ((found ++ encode_utf8 e.1) ++ content) ≤ most_bytes → content_from q m (found ++ encode_utf8 e.1) (cs ++ (q ∷ after)) ≡ Gives ((found ++ encode_utf8 e.1) ++ content) (q ∷ after))
    → content_from q n found ((e.0 ++ cs) ++ (q ∷ after)) ≡ Gives (found ++ (encode_utf8 e.1 ++ content)) (q ∷ after)
named_read q zero e r found content cs after k le few more = absurd (omega (arith, le))
named_read q (suc n) e r found content cs after k le few more =
    let rest_of = cs ++ (q ∷ after) in
    ap (content_from q (suc n) found) (append_assoc e.0 cs (q ∷ after) ∙ ap (λ xs. xs ++ rest_of) r.is)
    ∙ and_rest q n e.1 found content (38 ∷ r.tail ++ rest_of) rest_of (q ∷ after) (reference_next q e.1 (r.tail ++ rest_of) rest_of k (ap (λ xs. lexing.reference (xs ++ rest_of)) (sym r.is) ∙ r.read rest_of)) few
    (more n (omega (arith, le)))

content_read : (q : ℕ) (content cs : List ℕ) → IsContent q content cs → IsQuote q → (n : ℕ) (found after : List ℕ) → length cs ≤ n → length (found ++ content) ≤ most_bytes
    → lexing.goes_on (λ c. c == q) after ≡ false → content_from q n found (cs ++ (q ∷ after)) ≡ Gives (found ++ content) (q ∷ after)
content_read q content cs spelling.Nothing k n found after le few stop =
    round_off (λ _ text. lexing.is_in_string q text) (lexing.more_content q) n found (q ∷ after) (ends_string q after k stop) ∙ ap (λ xs. Gives xs (q ∷ after)) (sym (append-nil found))
content_read q content cs (spelling.Itself c more ds h f g rest) k zero found after le few stop = absurd (omega (arith, le))
content_read q content cs (spelling.Itself c more ds h f g rest) k (suc n) found after le few stop =
    and_rest q n c found more (c ∷ ds ++ (q ∷ after)) (ds ++ (q ∷ after)) (q ∷ after) (itself_next q c (ds ++ (q ∷ after)) h f g) few
    (λ few. content_read q more ds rest k n (found ++ encode_utf8 c) after (omega (arith, le)) few stop)
content_read q content cs (spelling.Doubled more ds rest) k zero found after le few stop = absurd (omega (arith, le))
content_read q content cs (spelling.Doubled more ds rest) k (suc n) found after le few stop =
    and_rest q n q found more (q ∷ q ∷ ds ++ (q ∷ after)) (ds ++ (q ∷ after)) (q ∷ after) (doubled_next q (ds ++ (q ∷ after)) k) few
    (λ few. content_read q more ds rest k n (found ++ encode_utf8 q) after (omega (arith, le)) few stop)
content_read q content cs (spelling.Named j e more ds there rest) k n found after le few stop =
    let r = one_of IsReference lexing.entities j e all_references there in
    let long = length-append e.0 ds in
    let head = ap length r.is in
    named_read q n e r found more ds after k (omega (arith, long, head, le)) few (λ m le few. content_read q more ds rest k m (found ++ encode_utf8 e.1) after le few stop)
content_read q content cs (spelling.Decimal d ds more es all xml rest) k zero found after le few stop = absurd (omega (arith, le))
content_read q content cs (spelling.Decimal d ds more es all xml rest) k (suc n) found after le few stop =
    let c = lexing.value_of 10 (d ∷ ds) in
    let rest_of = es ++ (q ∷ after) in
    let long = length-append ds (59 ∷ es) in
    ap (λ xs. content_from q (suc n) found (38 ∷ 35 ∷ d ∷ xs)) (append_assoc ds (59 ∷ es) (q ∷ after))
    ∙ and_rest q n c found more (38 ∷ 35 ∷ (d ∷ ds) ++ (59 ∷ rest_of)) rest_of (q ∷ after) (reference_next q c (35 ∷ (d ∷ ds) ++ (59 ∷ rest_of)) rest_of k (decimal_read d ds rest_of all xml)) few
    (λ few. content_read q more es rest k n (found ++ encode_utf8 c) after (omega (arith, le, long)) few stop)
content_read q content cs (spelling.Hexadecimal d ds more es all xml rest) k zero found after le few stop = absurd (omega (arith, le))
content_read q content cs (spelling.Hexadecimal d ds more es all xml rest) k (suc n) found after le few stop =
    let c = lexing.value_of 16 (d ∷ ds) in
    let rest_of = es ++ (q ∷ after) in
    let long = length-append ds (59 ∷ es) in
    ap (λ xs. content_from q (suc n) found (38 ∷ 35 ∷ 120 ∷ d ∷ xs)) (append_assoc ds (59 ∷ es) (q ∷ after))
    ∙ and_rest q n c found more (38 ∷ 35 ∷ 120 ∷ (d ∷ ds) ++ (59 ∷ rest_of)) rest_of (q ∷ after) (reference_next q c (35 ∷ 120 ∷ (d ∷ ds) ++ (59 ∷ rest_of)) rest_of k (hexadecimal_read d ds rest_of all xml)) few
    (λ few. content_read q more es rest k n (found ++ encode_utf8 c) after (omega (arith, le, long)) few stop)

string_read : (q : ℕ) (content cs after : List ℕ) → IsQuote q → IsContent q content cs → length content ≤ most_bytes → lexing.goes_on (λ c. c == q) after ≡ false
    → lexing.string q (q ∷ cs ++ (q ∷ after)) ≡ Gives (record { kind = kind.String; text = content; number = 0 }) after
string_read q content cs after k c few stop =
    let long = length-append cs (q ∷ after) in
    let token : Token = record { kind = kind.String; text = content; number = 0 } in
    ap (λ r. on_read r (lexing.string_of q)) (content_read q content cs c k (length (cs ++ (q ∷ after))) [] after (omega (arith, long)) few stop) ∙ closing q token k
  where
    closing : (q : ℕ) (token : Token) → IsQuote q → (mark (q ∷ []) >> pure token) (q ∷ after) ≡ Gives token after
    closing q token Double = refl
    closing q token Single = refl

-- Marks.

-- a mark, whatever of what may follow it does
record IsRead (m : List ℕ × Kind) : Type 0 where
  pub at_end : lexing.token m.0 ≡ Gives (lexing.mark_token m.1) []
  pub after_blank : (cs : List ℕ) → lexing.token (m.0 ++ (32 ∷ cs)) ≡ Gives (lexing.mark_token m.1) (32 ∷ cs)
  pub after_tab : (cs : List ℕ) → lexing.token (m.0 ++ (9 ∷ cs)) ≡ Gives (lexing.mark_token m.1) (9 ∷ cs)
  pub after_feed : (cs : List ℕ) → lexing.token (m.0 ++ (10 ∷ cs)) ≡ Gives (lexing.mark_token m.1) (10 ∷ cs)
  pub after_return : (cs : List ℕ) → lexing.token (m.0 ++ (13 ∷ cs)) ≡ Gives (lexing.mark_token m.1) (13 ∷ cs)
  pub after_paren : (cs : List ℕ) → lexing.token (m.0 ++ (40 ∷ cs)) ≡ Gives (lexing.mark_token m.1) (40 ∷ cs)
  pub no_name : lexing.goes_on (λ c. is_name_start c || is_digit c) m.0 ≡ false
  pub something : (length m.0 == 0) ≡ false

-- it begins no separator
record IsAlone (m : List ℕ × Kind) : Type 0 where
  pub at_end : lexing.is_separated m.0 ≡ false
  pub after_blank : (cs : List ℕ) → lexing.is_separated (m.0 ++ (32 ∷ cs)) ≡ false
  pub after_tab : (cs : List ℕ) → lexing.is_separated (m.0 ++ (9 ∷ cs)) ≡ false
  pub after_feed : (cs : List ℕ) → lexing.is_separated (m.0 ++ (10 ∷ cs)) ≡ false
  pub after_return : (cs : List ℕ) → lexing.is_separated (m.0 ++ (13 ∷ cs)) ≡ false
  pub after_paren : (cs : List ℕ) → lexing.is_separated (m.0 ++ (40 ∷ cs)) ≡ false

all_alone : AllOf IsAlone marks
unfolding marks pairs singles
all_alone =
    (record { at_end = refl; after_blank = λ cs. refl; after_tab = λ cs. refl; after_feed = λ cs. refl; after_return = λ cs. refl; after_paren = λ cs. refl }, (record { at_end = refl; after_blank = λ cs. refl; after_tab = λ cs. refl; after_feed = λ cs. refl; after_return = λ cs. refl; after_paren = λ cs. refl }, (record { at_end = refl; after_blank = λ cs. refl; after_tab = λ cs. refl; after_feed = λ cs. refl; after_return = λ cs. refl; after_paren = λ cs. refl }, (record { at_end = refl; after_blank = λ cs. refl; after_tab = λ cs. refl; after_feed = λ cs. refl; after_return = λ cs. refl; after_paren = λ cs. refl }, (record { at_end = refl; after_blank = λ cs. refl; after_tab = λ cs. refl; after_feed = λ cs. refl; after_return = λ cs. refl; after_paren = λ cs. refl }, (record { at_end = refl; after_blank = λ cs. refl; after_tab = λ cs. refl; after_feed = λ cs. refl; after_return = λ cs. refl; after_paren = λ cs. refl }, (record { at_end = refl; after_blank = λ cs. refl; after_tab = λ cs. refl; after_feed = λ cs. refl; after_return = λ cs. refl; after_paren = λ cs. refl }, (record { at_end = refl; after_blank = λ cs. refl; after_tab = λ cs. refl; after_feed = λ cs. refl; after_return = λ cs. refl; after_paren = λ cs. refl }, (record { at_end = refl; after_blank = λ cs. refl; after_tab = λ cs. refl; after_feed = λ cs. refl; after_return = λ cs. refl; after_paren = λ cs. refl }, (record { at_end = refl; after_blank = λ cs. refl; after_tab = λ cs. refl; after_feed = λ cs. refl; after_return = λ cs. refl; after_paren = λ cs. refl }, (record { at_end = refl; after_blank = λ cs. refl; after_tab = λ cs. refl; after_feed = λ cs. refl; after_return = λ cs. refl; after_paren = λ cs. refl }, (record { at_end = refl; after_blank = λ cs. refl; after_tab = λ cs. refl; after_feed = λ cs. refl; after_return = λ cs. refl; after_paren = λ cs. refl }, (record { at_end = refl; after_blank = λ cs. refl; after_tab = λ cs. refl; after_feed = λ cs. refl; after_return = λ cs. refl; after_paren = λ cs. refl }, (record { at_end = refl; after_blank = λ cs. refl; after_tab = λ cs. refl; after_feed = λ cs. refl; after_return = λ cs. refl; after_paren = λ cs. refl }, (record { at_end = refl; after_blank = λ cs. refl; after_tab = λ cs. refl; after_feed = λ cs. refl; after_return = λ cs. refl; after_paren = λ cs. refl }, (record { at_end = refl; after_blank = λ cs. refl; after_tab = λ cs. refl; after_feed = λ cs. refl; after_return = λ cs. refl; after_paren = λ cs. refl }, (record { at_end = refl; after_blank = λ cs. refl; after_tab = λ cs. refl; after_feed = λ cs. refl; after_return = λ cs. refl; after_paren = λ cs. refl }, (record { at_end = refl; after_blank = λ cs. refl; after_tab = λ cs. refl; after_feed = λ cs. refl; after_return = λ cs. refl; after_paren = λ cs. refl }, (record { at_end = refl; after_blank = λ cs. refl; after_tab = λ cs. refl; after_feed = λ cs. refl; after_return = λ cs. refl; after_paren = λ cs. refl }, (record { at_end = refl; after_blank = λ cs. refl; after_tab = λ cs. refl; after_feed = λ cs. refl; after_return = λ cs. refl; after_paren = λ cs. refl }, (record { at_end = refl; after_blank = λ cs. refl; after_tab = λ cs. refl; after_feed = λ cs. refl; after_return = λ cs. refl; after_paren = λ cs. refl }, (record { at_end = refl; after_blank = λ cs. refl; after_tab = λ cs. refl; after_feed = λ cs. refl; after_return = λ cs. refl; after_paren = λ cs. refl }, (record { at_end = refl; after_blank = λ cs. refl; after_tab = λ cs. refl; after_feed = λ cs. refl; after_return = λ cs. refl; after_paren = λ cs. refl }, (record { at_end = refl; after_blank = λ cs. refl; after_tab = λ cs. refl; after_feed = λ cs. refl; after_return = λ cs. refl; after_paren = λ cs. refl }, (record { at_end = refl; after_blank = λ cs. refl; after_tab = λ cs. refl; after_feed = λ cs. refl; after_return = λ cs. refl; after_paren = λ cs. refl }, (record { at_end = refl; after_blank = λ cs. refl; after_tab = λ cs. refl; after_feed = λ cs. refl; after_return = λ cs. refl; after_paren = λ cs. refl }, (record { at_end = refl; after_blank = λ cs. refl; after_tab = λ cs. refl; after_feed = λ cs. refl; after_return = λ cs. refl; after_paren = λ cs. refl }, tt)))))))))))))))))))))))))))

all_read : AllOf IsRead marks
unfolding marks pairs singles
all_read =
    (record { at_end = refl; after_blank = λ cs. refl; after_tab = λ cs. refl; after_feed = λ cs. refl; after_return = λ cs. refl; after_paren = λ cs. refl; no_name = refl; something = refl }, (record { at_end = refl; after_blank = λ cs. refl; after_tab = λ cs. refl; after_feed = λ cs. refl; after_return = λ cs. refl; after_paren = λ cs. refl; no_name = refl; something = refl }, (record { at_end = refl; after_blank = λ cs. refl; after_tab = λ cs. refl; after_feed = λ cs. refl; after_return = λ cs. refl; after_paren = λ cs. refl; no_name = refl; something = refl }, (record { at_end = refl; after_blank = λ cs. refl; after_tab = λ cs. refl; after_feed = λ cs. refl; after_return = λ cs. refl; after_paren = λ cs. refl; no_name = refl; something = refl }, (record { at_end = refl; after_blank = λ cs. refl; after_tab = λ cs. refl; after_feed = λ cs. refl; after_return = λ cs. refl; after_paren = λ cs. refl; no_name = refl; something = refl }, (record { at_end = refl; after_blank = λ cs. refl; after_tab = λ cs. refl; after_feed = λ cs. refl; after_return = λ cs. refl; after_paren = λ cs. refl; no_name = refl; something = refl }, (record { at_end = refl; after_blank = λ cs. refl; after_tab = λ cs. refl; after_feed = λ cs. refl; after_return = λ cs. refl; after_paren = λ cs. refl; no_name = refl; something = refl }, (record { at_end = refl; after_blank = λ cs. refl; after_tab = λ cs. refl; after_feed = λ cs. refl; after_return = λ cs. refl; after_paren = λ cs. refl; no_name = refl; something = refl }, (record { at_end = refl; after_blank = λ cs. refl; after_tab = λ cs. refl; after_feed = λ cs. refl; after_return = λ cs. refl; after_paren = λ cs. refl; no_name = refl; something = refl }, (record { at_end = refl; after_blank = λ cs. refl; after_tab = λ cs. refl; after_feed = λ cs. refl; after_return = λ cs. refl; after_paren = λ cs. refl; no_name = refl; something = refl }, (record { at_end = refl; after_blank = λ cs. refl; after_tab = λ cs. refl; after_feed = λ cs. refl; after_return = λ cs. refl; after_paren = λ cs. refl; no_name = refl; something = refl }, (record { at_end = refl; after_blank = λ cs. refl; after_tab = λ cs. refl; after_feed = λ cs. refl; after_return = λ cs. refl; after_paren = λ cs. refl; no_name = refl; something = refl }, (record { at_end = refl; after_blank = λ cs. refl; after_tab = λ cs. refl; after_feed = λ cs. refl; after_return = λ cs. refl; after_paren = λ cs. refl; no_name = refl; something = refl }, (record { at_end = refl; after_blank = λ cs. refl; after_tab = λ cs. refl; after_feed = λ cs. refl; after_return = λ cs. refl; after_paren = λ cs. refl; no_name = refl; something = refl }, (record { at_end = refl; after_blank = λ cs. refl; after_tab = λ cs. refl; after_feed = λ cs. refl; after_return = λ cs. refl; after_paren = λ cs. refl; no_name = refl; something = refl }, (record { at_end = refl; after_blank = λ cs. refl; after_tab = λ cs. refl; after_feed = λ cs. refl; after_return = λ cs. refl; after_paren = λ cs. refl; no_name = refl; something = refl }, (record { at_end = refl; after_blank = λ cs. refl; after_tab = λ cs. refl; after_feed = λ cs. refl; after_return = λ cs. refl; after_paren = λ cs. refl; no_name = refl; something = refl }, (record { at_end = refl; after_blank = λ cs. refl; after_tab = λ cs. refl; after_feed = λ cs. refl; after_return = λ cs. refl; after_paren = λ cs. refl; no_name = refl; something = refl }, (record { at_end = refl; after_blank = λ cs. refl; after_tab = λ cs. refl; after_feed = λ cs. refl; after_return = λ cs. refl; after_paren = λ cs. refl; no_name = refl; something = refl }, (record { at_end = refl; after_blank = λ cs. refl; after_tab = λ cs. refl; after_feed = λ cs. refl; after_return = λ cs. refl; after_paren = λ cs. refl; no_name = refl; something = refl }, (record { at_end = refl; after_blank = λ cs. refl; after_tab = λ cs. refl; after_feed = λ cs. refl; after_return = λ cs. refl; after_paren = λ cs. refl; no_name = refl; something = refl }, (record { at_end = refl; after_blank = λ cs. refl; after_tab = λ cs. refl; after_feed = λ cs. refl; after_return = λ cs. refl; after_paren = λ cs. refl; no_name = refl; something = refl }, (record { at_end = refl; after_blank = λ cs. refl; after_tab = λ cs. refl; after_feed = λ cs. refl; after_return = λ cs. refl; after_paren = λ cs. refl; no_name = refl; something = refl }, (record { at_end = refl; after_blank = λ cs. refl; after_tab = λ cs. refl; after_feed = λ cs. refl; after_return = λ cs. refl; after_paren = λ cs. refl; no_name = refl; something = refl }, (record { at_end = refl; after_blank = λ cs. refl; after_tab = λ cs. refl; after_feed = λ cs. refl; after_return = λ cs. refl; after_paren = λ cs. refl; no_name = refl; something = refl }, (record { at_end = refl; after_blank = λ cs. refl; after_tab = λ cs. refl; after_feed = λ cs. refl; after_return = λ cs. refl; after_paren = λ cs. refl; no_name = refl; something = refl }, (record { at_end = refl; after_blank = λ cs. refl; after_tab = λ cs. refl; after_feed = λ cs. refl; after_return = λ cs. refl; after_paren = λ cs. refl; no_name = refl; something = refl }, tt)))))))))))))))))))))))))))

mark_read : (m : List ℕ × Kind) (after : List ℕ) → IsRead m → Follows after → lexing.token (m.0 ++ after) ≡ Gives (lexing.mark_token m.1) after
mark_read m after r AtEnd = ap lexing.token (append-nil m.0) ∙ r.at_end
mark_read m after r (AtSeparator c cs Blank) = r.after_blank cs
mark_read m after r (AtSeparator c cs Tab) = r.after_tab cs
mark_read m after r (AtSeparator c cs Feed) = r.after_feed cs
mark_read m after r (AtSeparator c cs Return) = r.after_return cs
mark_read m after r (AtSeparator c cs Paren) = r.after_paren cs

mark_alone : (m : List ℕ × Kind) (after : List ℕ) → IsAlone m → Follows after → lexing.is_separated (m.0 ++ after) ≡ false
mark_alone m after r AtEnd = ap lexing.is_separated (append-nil m.0) ∙ r.at_end
mark_alone m after r (AtSeparator c cs Blank) = r.after_blank cs
mark_alone m after r (AtSeparator c cs Tab) = r.after_tab cs
mark_alone m after r (AtSeparator c cs Feed) = r.after_feed cs
mark_alone m after r (AtSeparator c cs Return) = r.after_return cs
mark_alone m after r (AtSeparator c cs Paren) = r.after_paren cs

-- The whole text.

quote_of : (q : ℕ) → (q ≡ 34) ⊎ (q ≡ 39) → IsQuote q
quote_of q (inl h) = subst IsQuote (sym h) Double
quote_of q (inr h) = subst IsQuote (sym h) Single

quoted_token : (q : ℕ) (text : List ℕ) → IsQuote q → lexing.token (q ∷ text) ≡ lexing.string q (q ∷ text)
quoted_token q text Double = refl
quoted_token q text Single = refl

quote_no_name : (q : ℕ) (text : List ℕ) → IsQuote q → lexing.goes_on (λ c. is_name_start c || is_digit c) (q ∷ text) ≡ false
quote_no_name q text Double = refl
quote_no_name q text Single = refl

no_quote : (q : ℕ) (after : List ℕ) → IsQuote q → Follows after → lexing.goes_on (λ c. c == q) after ≡ false
no_quote q after k AtEnd = refl
no_quote q after Double (AtSeparator c cs Blank) = refl
no_quote q after Double (AtSeparator c cs Tab) = refl
no_quote q after Double (AtSeparator c cs Feed) = refl
no_quote q after Double (AtSeparator c cs Return) = refl
no_quote q after Double (AtSeparator c cs Paren) = refl
no_quote q after Single (AtSeparator c cs Blank) = refl
no_quote q after Single (AtSeparator c cs Tab) = refl
no_quote q after Single (AtSeparator c cs Feed) = refl
no_quote q after Single (AtSeparator c cs Return) = refl
no_quote q after Single (AtSeparator c cs Paren) = refl

-- a token that is spelt is read where it is apart from what comes after
token_read : (t : Token) (cs after : List ℕ) → IsSpeltToken t cs → IsApart cs after → lexing.token (cs ++ after) ≡ Gives t after
token_read t cs after (spelling.Word c ds h all other) apart = word_read c ds after h all other apart
token_read t cs after (spelling.Number d ds all le) apart = number_read d ds after all le apart
token_read t cs after (spelling.String q content ds quote c few) apart =
    let k = quote_of q quote in
    let f = follows (q ∷ (ds ++ (q ∷ []))) after (quote_no_name q (ds ++ (q ∷ [])) k) apart in
    quoted_token q ((ds ++ (q ∷ [])) ++ after) k ∙ ap (λ xs. lexing.string q (q ∷ xs)) (append_assoc ds (q ∷ []) after) ∙ string_read q content ds after k c few (no_quote q after k f)
token_read t cs after (spelling.Mark k m there) apart =
    let r = one_of IsRead marks k m all_read there in mark_read m after r (follows m.0 after r.no_name apart)

word_alone : (c : ℕ) (text : List ℕ) → is_name_start c ≡ true → lexing.is_separated (c ∷ text) ≡ false
word_alone c text h = grind (arith, nat_tests)

number_alone : (d : ℕ) (text : List ℕ) → is_digit d ≡ true → lexing.is_separated (d ∷ text) ≡ false
number_alone d text h = grind (arith, nat_tests)

quote_alone : (q : ℕ) (text : List ℕ) → IsQuote q → lexing.is_separated (q ∷ text) ≡ false
quote_alone q text Double = refl
quote_alone q text Single = refl

-- it begins no separator
token_alone : (t : Token) (cs after : List ℕ) → IsSpeltToken t cs → IsApart cs after → lexing.is_separated (cs ++ after) ≡ false
token_alone t cs after (spelling.Word c ds h all other) apart = word_alone c (ds ++ after) h
token_alone t cs after (spelling.Number d ds all le) apart = number_alone d (ds ++ after) (and_both (is_digit d) (list_all is_digit ds) all).0
token_alone t cs after (spelling.String q content ds quote c few) apart = quote_alone q ((ds ++ (q ∷ [])) ++ after) (quote_of q quote)
token_alone t cs after (spelling.Mark k m there) apart =
    let r = one_of IsRead marks k m all_read there in mark_alone m after (one_of IsAlone marks k m all_alone there) (follows m.0 after r.no_name apart)

filled : (cs : List ℕ) → (length cs == 0) ≡ false → NotEmpty cs
filled [] h = absurd (let f : ⊥ = cc in f)
filled (c ∷ cs) h = record { head = c; tail = cs; is = refl }

token_filled : (t : Token) (cs : List ℕ) → IsSpeltToken t cs → NotEmpty cs
token_filled t cs (spelling.Word c ds h all other) = record { head = c; tail = ds; is = refl }
token_filled t cs (spelling.Number d ds all le) = record { head = d; tail = ds; is = refl }
token_filled t cs (spelling.String q content ds quote c few) = record { head = q; tail = ds ++ (q ∷ []); is = refl }
token_filled t cs (spelling.Mark k m there) = filled m.0 (one_of IsRead marks k m all_read there).something

rest_alone : (ts : List Token) (rest : List ℕ) → AreSpelt ts rest → lexing.is_separated rest ≡ false
rest_alone ts rest spelling.NoToken = refl
rest_alone ts rest (spelling.OneMore t more cs between left token separation spelt apart) = token_alone t cs (between ++ left) token apart

abbrev tokens_from : ℕ → List Token → List ℕ → Read (List Token)
tokens_from n found text = rounds (λ _ text. lexing.is_left text) lexing.next_token n found text

all_tokens : (ts : List Token) (rest : List ℕ) → AreSpelt ts rest → (n : ℕ) (found : List Token) → length rest ≤ n → tokens_from n found rest ≡ Gives (found ++ ts) []
all_tokens ts rest spelling.NoToken n found le = round_off (λ _ text. lexing.is_left text) lexing.next_token n found [] refl ∙ ap (λ xs. Gives xs []) (sym (append-nil found))
all_tokens ts rest (spelling.OneMore t more cs between left token separation spelt apart) zero found le =
    let f = token_filled t cs token in let head = ap length f.is in let long = length-append cs (between ++ left) in absurd (omega (arith, le, head, long))
all_tokens ts rest (spelling.OneMore t more cs between left token separation spelt apart) (suc n) found le =
    let f = token_filled t cs token in
    let head = ap length f.is in
    let long = length-append cs (between ++ left) in
    let both = length-append between left in
    round_given (λ _ text. lexing.is_left text) lexing.next_token n found (found ++ t ∷ []) (cs ++ (between ++ left)) left (ap (λ xs. lexing.is_left (xs ++ (between ++ left))) f.is)
    (ap (λ r. on_read r (λ u. lexing.separators >> pure (found ++ u ∷ []))) (token_read t cs (between ++ left) token apart)
    ∙ ap (λ r. on_read r (λ _. pure (found ++ t ∷ []))) (separators_read between left separation (rest_alone more left spelt) (length (between ++ left)) (omega (arith, both))))
    ∙ all_tokens more left spelt n (found ++ t ∷ []) (omega (arith, le, head, long, both)) ∙ ap (λ xs. Gives xs []) (append_assoc found (t ∷ []) more)

pub read_as_spelt : (text : List ℕ) (ts : List Token) → IsSpeltAs text ts → lexing.tokens text ≡ Gives ts []
unfolding lexing.tokens
read_as_spelt text ts h =
    let both = length-append h.before h.rest in
    ap lexing.tokens h.joined
    ∙ ap (λ r. on_read r (λ _ left. tokens_from (length left) [] left)) (separators_read h.before h.rest h.separation (rest_alone ts h.rest h.tokens) (length (h.before ++ h.rest)) (omega (arith, both)))
    ∙ all_tokens ts h.rest h.tokens (length h.rest) [] (omega arith)
