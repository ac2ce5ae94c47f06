-- How many brackets the tokens of an item open at once.
use Rattle.std.proofs.Common.{if◌then◌else◌, ◌≡◌, ℕ, ℤ, pos, negsuc, suc, ◌≤◌, ◌+◌, ◌-◌, Bool, true, false, not, cond, ◌&&◌, ◌||◌, nat_le, List, [], ◌∷◌, ◌++◌, refl, ap, sym, ◌∙◌, arith, append_assoc, append-nil, codes}
use Rattle.std.proofs.lemmas.Bool.{and_parts, not-true, lt-leb}
use Rattle.data_model.specs.declared.node.Kind.{Kind as NodeKind}
use Rattle.data_model.specs.declared.node.Kind.TheVariants as node
use Rattle.query_tokens.specs.declared.kind.Kind.{Kind}
use Rattle.query_tokens.specs.declared.kind.Kind.TheVariants as k
use Rattle.query_tokens.specs.declared.token.Token.{Token}
use Rattle.query_tokens.specs.Lexing.{mark_token}
use Rattle.static_checks.specs.Brackets.{opens, closes, open_after, nests_too_deep}
use Rattle.printed_trees.proofs.Spelling.{word, string, number, braced, parens, others_listed, listed, constructor, integer_spelling, any_name}

-- the tokens open so many brackets at most, and close each of them
abbrev pub IsNested : ℕ → List Token → Type 0
IsNested depth spelling = (n : ℕ) (rest : List Token) → n + depth ≤ 200 → nests_too_deep n (spelling ++ rest) ≡ nests_too_deep n rest

abbrev is_no_bracket : Kind → Bool
is_no_bracket kind = not (opens kind) && not (closes kind)

module _ (t : Token) (plain : is_no_bracket t.kind ≡ true) where
  stays : (n : ℕ) → open_after n t.kind ≡ n
  stays n =
      let parts = and_parts (not (opens t.kind)) (not (closes t.kind)) plain in
      ap (λ b. cond b (suc n) (cond (closes t.kind) (n - 1) n)) (not-true (opens t.kind) parts.0)
      ∙ ap (λ b. cond b (n - 1) n) (not-true (closes t.kind) parts.1)

  -- a token that is no bracket
  pub past : (n : ℕ) (ts : List Token) → n ≤ 200 → nests_too_deep n (t ∷ ts) ≡ nests_too_deep n ts
  past n ts h = ap (λ m. nat_le 201 m || nests_too_deep m ts) (stays n) ∙ ap (λ b. b || nests_too_deep n ts) (lt-leb 201 n (omega (arith, h)))

past_word : (name : List ℕ) (n : ℕ) (ts : List Token) → n ≤ 200 → nests_too_deep n (word name ∷ ts) ≡ nests_too_deep n ts
past_word name n ts h = past (word name) (any_name is_no_bracket name refl refl) n ts h

pub weaker : (d m : ℕ) (spelling : List Token) → d ≤ m → IsNested d spelling → IsNested m spelling
weaker d m spelling h p n rest g = p n rest (omega (arith, h, g))

pub in_braces : (d : ℕ) (spelling : List Token) → IsNested d spelling → IsNested (suc d) (braced spelling)
in_braces d spelling p n rest h =
    let back : suc n - 1 ≡ n = omega arith in
    ap (λ b. b || nests_too_deep (suc n) ((spelling ++ mark_token k.CloseBrace ∷ []) ++ rest)) (lt-leb 201 (suc n) (omega (arith, h)))
    ∙ ap (nests_too_deep (suc n)) (append_assoc spelling (mark_token k.CloseBrace ∷ []) rest)
    ∙ p (suc n) (mark_token k.CloseBrace ∷ rest) (omega (arith, h))
    ∙ ap (λ m. nat_le 201 m || nests_too_deep m rest) back
    ∙ ap (λ b. b || nests_too_deep n rest) (lt-leb 201 n (omega (arith, h)))

pub parens_nested : IsNested 1 parens
parens_nested n rest h =
    let back : suc n - 1 ≡ n = omega arith in
    ap (λ b. b || nests_too_deep (suc n) (mark_token k.CloseParen ∷ rest)) (lt-leb 201 (suc n) (omega (arith, h)))
    ∙ ap (λ m. nat_le 201 m || nests_too_deep m rest) back
    ∙ ap (λ b. b || nests_too_deep n rest) (lt-leb 201 n (omega (arith, h)))

pub after_word : (d : ℕ) (name : List ℕ) (spelling : List Token) → IsNested d spelling → IsNested d (word name ∷ spelling)
after_word d name spelling p n rest h = past_word name n (spelling ++ rest) (omega (arith, h)) ∙ p n rest h

pub string_nested : (text : List ℕ) → IsNested 0 (string text ∷ [])
string_nested text n rest h = past (string text) refl n rest (omega (arith, h))

pub integer_nested : (z : ℤ) → IsNested 0 (integer_spelling z)
integer_nested (pos i) n rest h = past (number i) refl n rest (omega (arith, h))
integer_nested (negsuc i) n rest h = past (mark_token k.Minus) refl n (number (suc i) ∷ rest) (omega (arith, h)) ∙ past (number (suc i)) refl n rest (omega (arith, h))

-- each of them
abbrev pub AreNested : ℕ → List (List Token) → Type 0
AreNested d [] = Unit {0}
AreNested d (t ∷ ts) = IsNested d t × AreNested d ts

pub both : (d : ℕ) (ss ts : List (List Token)) → AreNested d ss → AreNested d ts → AreNested d (ss ++ ts)
both d [] ts h g = g
both d (s ∷ ss) ts h g = (h.0, both d ss ts h.1 g)

joined : (d : ℕ) (s t : List Token) → IsNested d s → IsNested d t → IsNested d (s ++ t)
joined d s t p q n rest h = ap (nests_too_deep n) (append_assoc s t rest) ∙ p n (t ++ rest) h ∙ q n rest h

others_nested : (d : ℕ) (ts : List (List Token)) → AreNested d ts → IsNested d (others_listed ts)
others_nested d [] h n rest g = refl
others_nested d (t ∷ ts) h n rest g = past (mark_token k.Comma) refl n ((t ++ others_listed ts) ++ rest) (omega (arith, g)) ∙ joined d t (others_listed ts) h.0 (others_nested d ts h.1) n rest g

listed_nested : (d : ℕ) (ts : List (List Token)) → AreNested d ts → IsNested d (listed ts)
listed_nested d [] h n rest g = refl
listed_nested d (t ∷ ts) h n rest g = joined d t (others_listed ts) h.0 (others_nested d ts h.1) n rest g

quoted : (d : ℕ) (text : List ℕ) → IsNested (suc d) (braced (string text ∷ []))
quoted d text = weaker 1 (suc d) (braced (string text ∷ [])) (omega arith) (in_braces 0 (string text ∷ []) (string_nested text))

named : (d : ℕ) (kind name text : List ℕ) → IsNested (suc d) (word kind ∷ word name ∷ braced (string text ∷ []))
named d kind name text = after_word (suc d) kind (word name ∷ braced (string text ∷ [])) (after_word (suc d) name (braced (string text ∷ [])) (quoted d text))

-- one more than the parts, and two where a document has none
pub constructor_nested : (d : ℕ) (kind : NodeKind) (name text : List ℕ) (ts : List (List Token)) → (kind ≡ node.Document → 1 ≤ d) → AreNested d ts → IsNested (suc d) (constructor kind name text ts)
constructor_nested d node.Document name text [] l h = after_word (suc d) (codes "document") (braced parens) (in_braces d parens (weaker 1 d parens (l refl) parens_nested))
constructor_nested d node.Document name text (t ∷ ts) l h = after_word (suc d) (codes "document") (braced (listed (t ∷ ts))) (in_braces d (listed (t ∷ ts)) (listed_nested d (t ∷ ts) h))
constructor_nested d node.Element name text ts l h =
    after_word (suc d) (codes "element") (word name ∷ braced (listed ts)) (after_word (suc d) name (braced (listed ts)) (in_braces d (listed ts) (listed_nested d ts h)))
constructor_nested d node.Attribute name text ts l h = named d (codes "attribute") name text
constructor_nested d node.Text name text ts l h = after_word (suc d) (codes "text") (braced (string text ∷ [])) (quoted d text)
constructor_nested d node.Comment name text ts l h = after_word (suc d) (codes "comment") (braced (string text ∷ [])) (quoted d text)
constructor_nested d node.Instruction name text ts l h = named d (codes "processing-instruction") name text

pub boolean_nested : (b : Bool) → IsNested 1 (word (if b then codes "true" else codes "false") ∷ parens)
boolean_nested b = after_word 1 (if b then codes "true" else codes "false") parens parens_nested

pub shallow : (d : ℕ) (spelling : List Token) → d ≤ 200 → IsNested d spelling → nests_too_deep 0 spelling ≡ false
shallow d spelling h p = ap (nests_too_deep 0) (sym (append-nil spelling)) ∙ p 0 [] (omega (arith, h))
