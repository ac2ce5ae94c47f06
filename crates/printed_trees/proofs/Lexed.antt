-- The characters of a printed item are read as its tokens.
use Rattle.std.proofs.Common.{◌≡◌, ℕ, ℤ, pos, negsuc, suc, ◌≤◌, Bool, true, false, not, ◌&&◌, All, List, [], ◌∷◌, ◌++◌, length, chars, refl, ap, sym, ◌∙◌, subst, arith, append_assoc, append-nil, codes, decimal, unsigned_abs, encode_utf8_all, flat_map, if◌then◌else◌}
use Rattle.std.proofs.lemmas.Bool.{and_parts}
use Rattle.std.proofs.lemmas.List.Elements.{All-nil, All-cons}
use Rattle.std.proofs.lemmas.Str.{encodes-chars}
use Rattle.std.specs.Fmt.{signed_decimal}
use Rattle.std.specs.List.{AllZip, list_all}
use Rattle.std.specs.Str.{bytes_eq, str_to_ascii_lowercase}
use Rattle.document_names.specs.Characters.{is_name, is_xml_character}
use Rattle.data_model.specs.Tidy.{is_xml_text, holds_text}
use Rattle.data_model.specs.Trees.{Trees, no_trees, tree}
use Rattle.data_model.specs.declared.node.Kind.{Kind as NodeKind}
use Rattle.data_model.specs.declared.node.Kind.TheVariants as node
use Rattle.values.specs.Printing.{escaped, literal, listed, document_content, constructor}
use Rattle.query_tokens.specs.Reading.{Gives}
use Rattle.data_model.specs.Limits.{most_bytes}
use Rattle.query_tokens.specs.Lexing.{is_separated, mark_token}
use Rattle.query_tokens.specs.Limits.{max_integer}
use Rattle.query_tokens.specs.declared.kind.Kind.TheVariants as k
use Rattle.query_tokens.specs.declared.token.Token.{Token}
use Rattle.printed_trees.specs.Constructors.{IsPrintable, is_tidy_root}
use Rattle.printed_trees.proofs.Spelling.{word, string, number, braced, parens, others_listed, integer_spelling}
use Rattle.printed_trees.proofs.Spelling as spelling
use Rattle.printed_trees.proofs.Turns.{Reads, nothing, one, after, not_separated}
use Rattle.printed_trees.proofs.Literals.{literal_is_read}
use Rattle.printed_trees.proofs.Pieces.{is_end, end_is_not_separated, end_is_no_quote, name_is_not_separated, name_and_space, name_and_paren, open_brace, close_brace, comma_and_space, minus, parentheses, decimal_is_not_separated, decimal_number}

-- the text is read as the tokens, where an item ends after it
pub record IsLexed (text : List ℕ) (tokens : List Token) : Type 0 where
  pub begun : (rest : List ℕ) → is_end rest ≡ true → is_separated (text ++ rest) ≡ false
  pub read : (rest : List ℕ) → is_end rest ≡ true → Reads (text ++ rest) tokens rest

-- the same, of the text by another grouping
regrouped : (text : List ℕ) (tokens : List Token) (other : List ℕ → List ℕ) → ((rest : List ℕ) → text ++ rest ≡ other rest) → ((rest : List ℕ) → is_end rest ≡ true → is_separated (other rest) ≡ false)
    → ((rest : List ℕ) → is_end rest ≡ true → Reads (other rest) tokens rest) → IsLexed text tokens
regrouped text tokens other same begun read = record {
  begun = λ rest h. ap is_separated (same rest) ∙ begun rest h;
  read = λ rest h. subst (λ t. Reads t tokens rest) (sym (same rest)) (read rest h);
}

-- what stands in braces
module _ (text : List ℕ) (tokens : List Token) (h : IsLexed text tokens) where
  in_braces : (rest : List ℕ) → is_end rest ≡ true → Reads (123 ∷ (text ++ 125 ∷ rest)) (braced tokens) rest
  in_braces rest g =
      after (123 ∷ (text ++ 125 ∷ rest)) (text ++ 125 ∷ rest) rest (mark_token k.OpenBrace ∷ []) (tokens ++ mark_token k.CloseBrace ∷ []) (open_brace (text ++ 125 ∷ rest) (h.begun (125 ∷ rest) refl))
      (after (text ++ 125 ∷ rest) (125 ∷ rest) rest tokens (mark_token k.CloseBrace ∷ []) (h.read (125 ∷ rest) refl) (close_brace rest (end_is_not_separated rest g)))

  -- after a name and a space
  after_name : (name : List ℕ) → is_name name ≡ true → (rest : List ℕ) → is_end rest ≡ true → Reads (name ++ 32 ∷ 123 ∷ (text ++ 125 ∷ rest)) (word name ∷ braced tokens) rest
  after_name name n rest g =
      after (name ++ 32 ∷ 123 ∷ (text ++ 125 ∷ rest)) (123 ∷ (text ++ 125 ∷ rest)) rest (word name ∷ []) (braced tokens) (name_and_space name (123 ∷ (text ++ 125 ∷ rest)) n refl) (in_braces rest g)

  closed : (rest : List ℕ) → text ++ 125 ∷ [] ++ rest ≡ text ++ 125 ∷ rest
  closed rest = append_assoc text (125 ∷ []) rest

  document : IsLexed (codes "document {" ++ text ++ codes "}") (word (codes "document") ∷ braced tokens)
  document =
      regrouped _ _ (λ rest. codes "document" ++ 32 ∷ 123 ∷ (text ++ 125 ∷ rest)) (λ rest. ap (λ t. codes "document" ++ 32 ∷ 123 ∷ t) (closed rest)) (λ rest g. refl)
      (after_name (codes "document") refl)

  text_node : IsLexed (codes "text {" ++ text ++ codes "}") (word (codes "text") ∷ braced tokens)
  text_node = regrouped _ _ (λ rest. codes "text" ++ 32 ∷ 123 ∷ (text ++ 125 ∷ rest)) (λ rest. ap (λ t. codes "text" ++ 32 ∷ 123 ∷ t) (closed rest)) (λ rest g. refl) (after_name (codes "text") refl)

  comment : IsLexed (codes "comment {" ++ text ++ codes "}") (word (codes "comment") ∷ braced tokens)
  comment = regrouped _ _ (λ rest. codes "comment" ++ 32 ∷ 123 ∷ (text ++ 125 ∷ rest)) (λ rest. ap (λ t. codes "comment" ++ 32 ∷ 123 ∷ t) (closed rest)) (λ rest g. refl) (after_name (codes "comment") refl)

  -- the word of a constructor, a name, and the braces
  module _ (name : List ℕ) (n : is_name name ≡ true) where
    of_name : (rest : List ℕ) → name ++ 32 ∷ 123 ∷ [] ++ text ++ 125 ∷ [] ++ rest ≡ name ++ 32 ∷ 123 ∷ (text ++ 125 ∷ rest)
    of_name rest = simp append_assoc

    after_word : (kind : List ℕ) → is_name kind ≡ true → (rest : List ℕ) → is_end rest ≡ true → Reads (kind ++ 32 ∷ (name ++ 32 ∷ 123 ∷ (text ++ 125 ∷ rest))) (word kind ∷ word name ∷ braced tokens) rest
    after_word kind m rest g =
        after (kind ++ 32 ∷ (name ++ 32 ∷ 123 ∷ (text ++ 125 ∷ rest))) (name ++ 32 ∷ 123 ∷ (text ++ 125 ∷ rest)) rest (word kind ∷ []) (word name ∷ braced tokens)
        (name_and_space kind (name ++ 32 ∷ 123 ∷ (text ++ 125 ∷ rest)) m (name_is_not_separated name (32 ∷ 123 ∷ (text ++ 125 ∷ rest)) n)) (after_name name n rest g)

    element : IsLexed (codes "element " ++ name ++ codes " {" ++ text ++ codes "}") (word (codes "element") ∷ word name ∷ braced tokens)
    element = regrouped _ _ (λ rest. codes "element" ++ 32 ∷ (name ++ 32 ∷ 123 ∷ (text ++ 125 ∷ rest))) (λ rest. ap (λ t. codes "element" ++ 32 ∷ t) (of_name rest)) (λ rest g. refl) (after_word (codes "element") refl)

    attribute : IsLexed (codes "attribute " ++ name ++ codes " {" ++ text ++ codes "}") (word (codes "attribute") ∷ word name ∷ braced tokens)
    attribute = regrouped _ _ (λ rest. codes "attribute" ++ 32 ∷ (name ++ 32 ∷ 123 ∷ (text ++ 125 ∷ rest))) (λ rest. ap (λ t. codes "attribute" ++ 32 ∷ t) (of_name rest)) (λ rest g. refl) (after_word (codes "attribute") refl)

    instruction : IsLexed (codes "processing-instruction " ++ name ++ codes " {" ++ text ++ codes "}") (word (codes "processing-instruction") ∷ word name ∷ braced tokens)
    instruction =
        regrouped _ _ (λ rest. codes "processing-instruction" ++ 32 ∷ (name ++ 32 ∷ 123 ∷ (text ++ 125 ∷ rest))) (λ rest. ap (λ t. codes "processing-instruction" ++ 32 ∷ t) (of_name rest)) (λ rest g. refl)
        (after_word (codes "processing-instruction") refl)

-- each text as its tokens, with a comma and a space between two of them
listed_lexed : (t : List ℕ) (ts : List (List ℕ)) (s : List Token) (ss : List (List Token)) → IsLexed t s → AllZip IsLexed ts ss → IsLexed (listed (t ∷ ts)) (spelling.listed (s ∷ ss))
listed_lexed t [] s [] h hs = subst (IsLexed t) (sym (append-nil s)) h
listed_lexed t [] s (r ∷ rs) h hs = absurd hs
listed_lexed t (u ∷ us) s [] h hs = absurd hs
listed_lexed t (u ∷ us) s (r ∷ rs) h hs =
    let more = listed_lexed u us r rs hs.0 hs.1 in
    regrouped (listed (t ∷ u ∷ us)) (spelling.listed (s ∷ r ∷ rs)) (λ rest. t ++ 44 ∷ 32 ∷ (listed (u ∷ us) ++ rest)) (λ rest. simp append_assoc) (λ rest g. h.begun (44 ∷ 32 ∷ (listed (u ∷ us) ++ rest)) refl)
    (λ rest g.
    after (t ++ 44 ∷ 32 ∷ (listed (u ∷ us) ++ rest)) (44 ∷ 32 ∷ (listed (u ∷ us) ++ rest)) rest s (others_listed (r ∷ rs)) (h.read (44 ∷ 32 ∷ (listed (u ∷ us) ++ rest)) refl)
    (after (44 ∷ 32 ∷ (listed (u ∷ us) ++ rest)) (listed (u ∷ us) ++ rest) rest (mark_token k.Comma ∷ []) (spelling.listed (r ∷ rs)) (comma_and_space (listed (u ∷ us) ++ rest) (more.begun rest g)) (more.read rest g)))

content_lexed : (ts : List (List ℕ)) (ss : List (List Token)) → AllZip IsLexed ts ss → IsLexed (listed ts) (spelling.listed ss)
content_lexed [] [] h = record { begun = end_is_not_separated; read = λ rest g. nothing rest }
content_lexed [] (s ∷ ss) h = absurd h
content_lexed (t ∷ ts) [] h = absurd h
content_lexed (t ∷ ts) (s ∷ ss) h = listed_lexed t ts s ss h.0 h.1

document_lexed : (ts : List (List ℕ)) (ss : List (List Token)) → AllZip IsLexed ts ss → IsLexed (document_content ts) (spelling.document_content ss)
document_lexed [] [] h = record { begun = λ rest g. refl; read = λ rest g. parentheses rest (end_is_not_separated rest g) }
document_lexed [] (s ∷ ss) h = absurd h
document_lexed (t ∷ ts) [] h = absurd h
document_lexed (t ∷ ts) (s ∷ ss) h = listed_lexed t ts s ss h.0 h.1

-- Atomic values.

allowed : (cs : List ℕ) → list_all is_xml_character cs ≡ true → All (λ c. is_xml_character c ≡ true) cs
allowed [] h = All-nil (λ c. is_xml_character c ≡ true)
allowed (c ∷ cs) h = let parts = and_parts (is_xml_character c) (list_all is_xml_character cs) h in All-cons (λ c. is_xml_character c ≡ true) c cs parts.0 (allowed cs parts.1)

pub literal_lexed : (text : List ℕ) → IsPrintable text → is_xml_text text ≡ true → IsLexed (literal (chars text)) (string text ∷ [])
literal_lexed text w x =
    let bytes : encode_utf8_all (chars text) ≡ text = encodes-chars text w.utf8 in
    let short : length (encode_utf8_all (chars text)) ≤ most_bytes = omega (arith, ap length bytes, w.short) in
    regrouped (literal (chars text)) (string text ∷ []) (λ rest. 34 ∷ (flat_map escaped (chars text) ++ 34 ∷ rest)) (λ rest. ap (λ t. 34 ∷ t) (append_assoc (flat_map escaped (chars text)) (34 ∷ []) rest)) (λ rest g. refl)
    (λ rest g.
    one (34 ∷ (flat_map escaped (chars text) ++ 34 ∷ rest)) rest rest (string text) refl
    (literal_is_read (chars text) rest (allowed (chars text) x) short (end_is_no_quote rest g) ∙ ap (λ b. Gives (string b) rest) bytes)
    (not_separated rest (end_is_not_separated rest g)))

truth_lexed : (name : List ℕ) → is_name name ≡ true → IsLexed (name ++ 40 ∷ 41 ∷ []) (word name ∷ parens)
truth_lexed name h =
    regrouped (name ++ 40 ∷ 41 ∷ []) (word name ∷ parens) (λ rest. name ++ 40 ∷ 41 ∷ rest) (λ rest. append_assoc name (40 ∷ 41 ∷ []) rest) (λ rest g. name_is_not_separated name (40 ∷ 41 ∷ rest) h)
    (λ rest g. after (name ++ 40 ∷ 41 ∷ rest) (40 ∷ 41 ∷ rest) rest (word name ∷ []) parens (name_and_paren name rest h) (parentheses rest (end_is_not_separated rest g)))

pub boolean_lexed : (b : Bool) → IsLexed (if b then codes "true()" else codes "false()") (word (if b then codes "true" else codes "false") ∷ parens)
boolean_lexed true = truth_lexed (codes "true") refl
boolean_lexed false = truth_lexed (codes "false") refl

pub integer_lexed : (z : ℤ) → unsigned_abs z ≤ max_integer → IsLexed (signed_decimal z) (integer_spelling z)
integer_lexed (pos n) h = record { begun = λ rest g. decimal_is_not_separated n rest h; read = λ rest g. decimal_number n rest h g }
integer_lexed (negsuc n) h = record {
  begun = λ rest g. refl;
  read = λ rest g.
      after (45 ∷ (decimal (suc n) ++ rest)) (decimal (suc n) ++ rest) rest (mark_token k.Minus ∷ []) (number (suc n) ∷ []) (minus (decimal (suc n) ++ rest) (decimal_is_not_separated (suc n) rest h)) (decimal_number (suc n) rest h g);
}

-- Nodes.

pub constructor_lexed : (kind : NodeKind) (name text : List ℕ) (ts : List (List ℕ)) (ss : List (List Token)) → is_tidy_root kind name text ≡ true → IsPrintable text → AllZip IsLexed ts ss
    → IsLexed (constructor kind name (chars text) ts) (spelling.constructor kind name text ss)
constructor_lexed node.Document name text ts ss r w h = document (document_content ts) (spelling.document_content ss) (document_lexed ts ss h)
constructor_lexed node.Element name text ts ss r w h = element (listed ts) (spelling.listed ss) (content_lexed ts ss h) name (and_parts (is_name name) _ r).0
constructor_lexed node.Attribute name text ts ss r w h =
    let rules = and_parts (is_name name) (is_xml_text text) r in attribute (literal (chars text)) (string text ∷ []) (literal_lexed text w rules.1) name rules.0
constructor_lexed node.Text name text ts ss r w h =
    let rules = and_parts (bytes_eq name []) (is_xml_text text) r in text_node (literal (chars text)) (string text ∷ []) (literal_lexed text w rules.1)
constructor_lexed node.Comment name text ts ss r w h =
    let front = and_parts (bytes_eq name [] && is_xml_text text) _ (and_parts (bytes_eq name [] && is_xml_text text && not (holds_text (codes "--") text)) _ r).0 in
    comment (literal (chars text)) (string text ∷ []) (literal_lexed text w (and_parts (bytes_eq name []) (is_xml_text text) front.0).1)
constructor_lexed node.Instruction name text ts ss r w h =
    let named = is_name name && not (bytes_eq (str_to_ascii_lowercase name) (codes "xml")) in
    let front = and_parts (named && is_xml_text text) _ (and_parts (named && is_xml_text text && not (holds_text (codes "?>") text)) _ r).0 in
    let rules = and_parts named (is_xml_text text) front.0 in
    instruction (literal (chars text)) (string text ∷ []) (literal_lexed text w rules.1) name (and_parts (is_name name) _ rules.0).0

-- the characters of the texts of trees
abbrev pub tree_characters : Trees → List (List ℕ)
tree_characters no_trees = []
tree_characters (tree c bs cs rest) = constructor c.kind c.name (chars c.text) (tree_characters bs ++ tree_characters cs) ∷ tree_characters rest

pub both : (xs ys : List (List ℕ)) (ss ts : List (List Token)) → AllZip IsLexed xs ss → AllZip IsLexed ys ts → AllZip IsLexed (xs ++ ys) (ss ++ ts)
both [] ys [] ts h g = g
both [] ys (s ∷ ss) ts h g = absurd h
both (x ∷ xs) ys [] ts h g = absurd h
both (x ∷ xs) ys (s ∷ ss) ts h g = (h.0, both xs ys ss ts h.1 g)
