-- The characters of a printed text: each byte of ASCII is one, and the others stand in the texts and stay as they are.
use Rattle.std.proofs.Common.{not, ◌≡◌, ◌≢◌, ℕ, ℤ, pos, negsuc, suc, ◌<◌, ◌≤◌, Bool, true, false, cond, ◌==◌, ◌&&◌, nat_lt, All, List, [], ◌∷◌, ◌++◌, chars, decimal, flat_map, refl, ap, ap₂, sym, ◌∙◌, subst, arith, codes, unsigned_abs, if◌then◌else◌, IsUtf8, append-nil}
use Rattle.std.proofs.Math.Utf8.{encode, encodes, scalar, scalars}
use Rattle.std.proofs.lemmas.Bool.{and_parts, and_from, eqb-true, eqb-false, ltb-true}
use Rattle.std.proofs.lemmas.Bool.Decides.{nat_tests}
use Rattle.std.proofs.lemmas.Grind.{flat_map-append}
use Rattle.std.proofs.lemmas.List.Elements.{All-nil, All-cons, All-head, All-tail, All-weaker}
use Rattle.std.proofs.lemmas.Str.{chars-encodes, encodes-append, encode_ascii, encodes-chars, scalars-chars}
use Rattle.std.specs.Fmt.{signed_decimal}
use Rattle.std.specs.List.{AllZip, list_all}
use Rattle.document_names.specs.Characters.{is_digit, is_name, is_name_character}
use Rattle.std.specs.Str.{bytes_eq, str_to_ascii_lowercase}
use Rattle.data_model.specs.Tidy.{is_xml_text, holds_text}
use Rattle.data_model.specs.declared.node.Kind.{Kind as NodeKind}
use Rattle.data_model.specs.declared.node.Kind.TheVariants as node
use Rattle.values.specs.Printing.{escaped, literal, listed, document_content, constructor}
use Rattle.values.proofs.Escapes.{plain}
use Rattle.query_tokens.specs.Limits.{max_integer}
use Rattle.printed_trees.specs.Constructors.{is_tidy_root}
use Rattle.printed_trees.proofs.Numerals.{digits_of}
use Rattle.printed_trees.proofs.Pieces.{has_name}

-- the bytes are those of the characters
pub record IsText (bytes cs : List ℕ) : Type 0 where
  pub each : scalars cs ≡ true
  pub spell : encodes cs ≡ bytes

pub characters : (bytes cs : List ℕ) → IsText bytes cs → chars bytes ≡ cs
characters bytes cs h = ap chars (sym h.spell) ∙ chars-encodes cs h.each

scalars_joined : (xs ys : List ℕ) → scalars xs ≡ true → scalars ys ≡ true → scalars (xs ++ ys) ≡ true
scalars_joined [] ys h g = g
scalars_joined (x ∷ xs) ys h g = let parts = and_parts (scalar x) (scalars xs) h in and_from (scalar x) (scalars (xs ++ ys)) parts.0 (scalars_joined xs ys parts.1 g)

pub joined : (bs ds xs ys : List ℕ) → IsText bs xs → IsText ds ys → IsText (bs ++ ds) (xs ++ ys)
joined bs ds xs ys h g = record { each = scalars_joined xs ys h.each g.each; spell = encodes-append xs ys ∙ ap₂ (λ a b. a ++ b) h.spell g.spell }

low : (c : ℕ) → c < 128 → scalar c ≡ true
low c h = grind (arith, nat_tests)

ascii : (bs : List ℕ) → All (λ b. b < 128) bs → IsText bs bs
ascii [] h = record { each = refl; spell = refl }
ascii (b ∷ bs) h =
    let first = All-head (λ b. b < 128) b bs h in
    let more = ascii bs (All-tail (λ b. b < 128) b bs h) in
    record { each = and_from (scalar b) (scalars bs) (low b first) more.each; spell = ap₂ (λ a c. a ++ c) (encode_ascii b first) more.spell }

low_all : (bs : List ℕ) → list_all (λ b. nat_lt b 128) bs ≡ true → All (λ b. b < 128) bs
low_all [] h = All-nil (λ b. b < 128)
low_all (b ∷ bs) h = let parts = and_parts (nat_lt b 128) (list_all (λ b. nat_lt b 128) bs) h in All-cons (λ b. b < 128) b bs (ltb-true b 128 parts.0) (low_all bs parts.1)

-- bytes that are written out
written : (bs : List ℕ) → list_all (λ b. nat_lt b 128) bs ≡ true → IsText bs bs
written bs h = ascii bs (low_all bs h)

low_name : (c : ℕ) → is_name_character c ≡ true → c < 128
low_name c h = grind (arith, nat_tests)

low_digit : (c : ℕ) → is_digit c ≡ true → c < 128
low_digit c h = grind (arith, nat_tests)

named : (name : List ℕ) → is_name name ≡ true → IsText name name
named [] h = record { each = refl; spell = refl }
named (c ∷ cs) h = ascii (c ∷ cs) (All-weaker (λ c. is_name_character c ≡ true) (λ b. b < 128) low_name (c ∷ cs) (has_name c cs h).each)

decimal_text : (n : ℕ) → n ≤ max_integer → IsText (decimal n) (decimal n)
decimal_text n h = ascii (decimal n) (All-weaker (λ c. is_digit c ≡ true) (λ b. b < 128) low_digit (decimal n) (digits_of n (omega (arith, h))).each)

pub integer_text : (z : ℤ) → unsigned_abs z ≤ max_integer → IsText (signed_decimal z) (signed_decimal z)
integer_text (pos n) h = decimal_text n h
integer_text (negsuc n) h = joined (45 ∷ []) (decimal (suc n)) (45 ∷ []) (decimal (suc n)) (written (45 ∷ []) refl) (decimal_text (suc n) h)

pub boolean_text : (b : Bool) → IsText (if b then codes "true()" else codes "false()") (if b then codes "true()" else codes "false()")
boolean_text true = written (codes "true()") refl
boolean_text false = written (codes "false()") refl

-- Escapes.

-- what stands for a character in a literal, in bytes and in characters
record IsEscape (c : ℕ) (piece : List ℕ) : Type 0 where
  each : scalar c ≡ true → scalars piece ≡ true
  spell : flat_map escaped (encode c) ≡ encodes piece

module _ (c : ℕ) where
  itself : c ≢ 34 → c ≢ 38 → c ≢ 9 → c ≢ 10 → c ≢ 13 → IsEscape c (c ∷ [])
  itself q a t l r = record { each = λ h. and_from (scalar c) true h refl; spell = plain c q a t l r ∙ sym (append-nil (encode c)) }

  either : (d : ℕ) (piece other : List ℕ) → IsEscape d piece → (c ≢ d → IsEscape c other) → (t : Bool) → (c == d) ≡ t → IsEscape c (cond t piece other)
  either d piece other p q true e = subst (λ x. IsEscape x piece) (sym (eqb-true c d e)) p
  either d piece other p q false e = q (eqb-false c d e)

quote : IsEscape 34 (34 ∷ 34 ∷ [])
unfolding encode
quote = record { each = λ h. refl; spell = refl }

ampersand : IsEscape 38 (codes "&amp;")
unfolding encode
ampersand = record { each = λ h. refl; spell = refl }

tab : IsEscape 9 (codes "&#9;")
unfolding encode
tab = record { each = λ h. refl; spell = refl }

line_feed : IsEscape 10 (codes "&#10;")
unfolding encode
line_feed = record { each = λ h. refl; spell = refl }

carriage_return : IsEscape 13 (codes "&#13;")
unfolding encode
carriage_return = record { each = λ h. refl; spell = refl }

is_escape : (c : ℕ) → IsEscape c (escaped c)
is_escape c =
    either c 34 (34 ∷ 34 ∷ []) _ quote
    (λ q. either c 38 (codes "&amp;") _ ampersand
    (λ a. either c 9 (codes "&#9;") _ tab
    (λ t. either c 10 (codes "&#10;") _ line_feed
    (λ l. either c 13 (codes "&#13;") (c ∷ []) carriage_return (λ r. itself c q a t l r) (c == 13) refl) (c == 10) refl) (c == 9) refl) (c == 38) refl) (c == 34) refl

escapes : (cs : List ℕ) → scalars cs ≡ true → IsText (flat_map escaped (encodes cs)) (flat_map escaped cs)
escapes [] h = record { each = refl; spell = refl }
escapes (c ∷ cs) h =
    let parts = and_parts (scalar c) (scalars cs) h in
    let more = escapes cs parts.1 in
    let first = is_escape c in
    record {
      each = scalars_joined (escaped c) (flat_map escaped cs) (first.each parts.0) more.each;
      spell = encodes-append (escaped c) (flat_map escaped cs) ∙ ap₂ (λ a b. a ++ b) (sym first.spell) more.spell ∙ sym (flat_map-append escaped (encode c) (encodes cs));
    }

pub literal_text : (text : List ℕ) → IsUtf8 text → IsText (literal text) (literal (chars text))
literal_text text u =
    let content : IsText (flat_map escaped text) (flat_map escaped (chars text)) = subst (λ bs. IsText (flat_map escaped bs) (flat_map escaped (chars text))) (encodes-chars text u) (escapes (chars text) (scalars-chars text u)) in
    joined (34 ∷ flat_map escaped text) (34 ∷ []) (34 ∷ flat_map escaped (chars text)) (34 ∷ [])
    (joined (34 ∷ []) (flat_map escaped text) (34 ∷ []) (flat_map escaped (chars text)) (written (34 ∷ []) refl) content) (written (34 ∷ []) refl)

-- Nodes.

listed_text : (bs : List ℕ) (bss : List (List ℕ)) (cs : List ℕ) (css : List (List ℕ)) → IsText bs cs → AllZip IsText bss css → IsText (listed (bs ∷ bss)) (listed (cs ∷ css))
listed_text bs [] cs [] h hs = h
listed_text bs [] cs (x ∷ xs) h hs = absurd hs
listed_text bs (x ∷ xs) cs [] h hs = absurd hs
listed_text bs (ds ∷ dss) cs (xs ∷ xss) h hs =
    joined (bs ++ codes ", ") (listed (ds ∷ dss)) (cs ++ codes ", ") (listed (xs ∷ xss)) (joined bs (codes ", ") cs (codes ", ") h (written (codes ", ") refl)) (listed_text ds dss xs xss hs.0 hs.1)

content_text : (bss css : List (List ℕ)) → AllZip IsText bss css → IsText (listed bss) (listed css)
content_text [] [] h = record { each = refl; spell = refl }
content_text [] (c ∷ css) h = absurd h
content_text (b ∷ bss) [] h = absurd h
content_text (b ∷ bss) (c ∷ css) h = listed_text b bss c css h.0 h.1

document_text : (bss css : List (List ℕ)) → AllZip IsText bss css → IsText (document_content bss) (document_content css)
document_text [] [] h = written (codes "()") refl
document_text [] (c ∷ css) h = absurd h
document_text (b ∷ bss) [] h = absurd h
document_text (b ∷ bss) (c ∷ css) h = listed_text b bss c css h.0 h.1

-- a word, braces and what stands in them
unnamed : (front bs cs : List ℕ) → list_all (λ b. nat_lt b 128) front ≡ true → IsText bs cs → IsText (front ++ bs ++ codes "}") (front ++ cs ++ codes "}")
unnamed front bs cs w h = joined (front ++ bs) (codes "}") (front ++ cs) (codes "}") (joined front bs front cs (written front w) h) (written (codes "}") refl)

-- the same with a name
with_name : (front name bs cs : List ℕ) → list_all (λ b. nat_lt b 128) front ≡ true → is_name name ≡ true → IsText bs cs → IsText (front ++ name ++ codes " {" ++ bs ++ codes "}") (front ++ name ++ codes " {" ++ cs ++ codes "}")
with_name front name bs cs w n h =
    joined (front ++ name ++ codes " {" ++ bs) (codes "}") (front ++ name ++ codes " {" ++ cs) (codes "}")
    (joined (front ++ name ++ codes " {") bs (front ++ name ++ codes " {") cs
    (joined (front ++ name) (codes " {") (front ++ name) (codes " {") (joined front name front name (written front w) (named name n)) (written (codes " {") refl)) h)
    (written (codes "}") refl)

pub constructor_text : (kind : NodeKind) (name text : List ℕ) (bss css : List (List ℕ)) → is_tidy_root kind name text ≡ true → IsUtf8 text → AllZip IsText bss css
    → IsText (constructor kind name text bss) (constructor kind name (chars text) css)
constructor_text node.Document name text bss css r u h = unnamed (codes "document {") (document_content bss) (document_content css) refl (document_text bss css h)
constructor_text node.Element name text bss css r u h = with_name (codes "element ") name (listed bss) (listed css) refl (and_parts (is_name name) _ r).0 (content_text bss css h)
constructor_text node.Attribute name text bss css r u h = with_name (codes "attribute ") name (literal text) (literal (chars text)) refl (and_parts (is_name name) _ r).0 (literal_text text u)
constructor_text node.Text name text bss css r u h = unnamed (codes "text {") (literal text) (literal (chars text)) refl (literal_text text u)
constructor_text node.Comment name text bss css r u h = unnamed (codes "comment {") (literal text) (literal (chars text)) refl (literal_text text u)
constructor_text node.Instruction name text bss css r u h =
    let named_so = is_name name && not (bytes_eq (str_to_ascii_lowercase name) (codes "xml")) in
    let front = and_parts (named_so && is_xml_text text) _ (and_parts (named_so && is_xml_text text && not (holds_text (codes "?>") text)) _ r).0 in
    with_name (codes "processing-instruction ") name (literal text) (literal (chars text)) refl (and_parts (is_name name) _ (and_parts named_so (is_xml_text text) front.0).0).0 (literal_text text u)

pub both : (bss dss css ess : List (List ℕ)) → AllZip IsText bss css → AllZip IsText dss ess → AllZip IsText (bss ++ dss) (css ++ ess)
both [] dss [] ess h g = g
both [] dss (c ∷ css) ess h g = absurd h
both (b ∷ bss) dss [] ess h g = absurd h
both (b ∷ bss) dss (c ∷ css) ess h g = (h.0, both bss dss css ess h.1 g)
