-- A string literal with its escapes is read as its text.
use Rattle.std.proofs.Common.{◌≡◌, ℕ, suc, ◌+◌, ◌-◌, ◌≤◌, Bool, true, false, not, cond, ◌==◌, ◌||◌, nat_lt, All, List, [], ◌∷◌, ◌++◌, length, drop, flat_map, refl, ap, ap₂, sym, ◌∙◌, subst, arith, append_assoc, append-nil, length-append, encode_utf8, encode_utf8_all, codes}
use Rattle.std.proofs.lemmas.Bool.{eqb-true, le-ltb}
use Rattle.std.proofs.lemmas.List.Elements.{All-head, All-tail}
use Rattle.document_names.specs.Characters.{is_xml_character}
use Rattle.values.specs.Printing.{escaped}
use Rattle.fault_codes.specs.declared.code.Code.TheVariants.{XPST0003, PXQ0002}
use Rattle.query_tokens.specs.Reading.{Gives, Fails, on_read, fails, pure, rounds, begins}
use Rattle.data_model.specs.Limits.{most_bytes}
use Rattle.query_tokens.specs.Lexing.{character, reference, content_character, is_in_string, longer, more_content, contents, string_of, token}
use Rattle.query_tokens.proofs.Rounds.{ends}
use Rattle.printed_trees.proofs.Spelling.{string}

-- what stands for a character in a literal
record IsPiece (c : ℕ) (piece : List ℕ) : Type 0 where
  goes_on : (rest : List ℕ) → is_in_string 34 (piece ++ rest) ≡ true
  read : (rest : List ℕ) → content_character 34 (piece ++ rest) ≡ Gives c rest
  some : 1 ≤ length piece

quote : IsPiece 34 (34 ∷ 34 ∷ [])
quote = record { goes_on = λ rest. refl; read = λ rest. refl; some = omega arith }

ampersand : IsPiece 38 (codes "&amp;")
ampersand = record { goes_on = λ rest. refl; read = λ rest. refl; some = omega arith }

tab : IsPiece 9 (codes "&#9;")
unfolding rounds
tab = record { goes_on = λ rest. refl; read = λ rest. refl; some = omega arith }

line_feed : IsPiece 10 (codes "&#10;")
unfolding rounds
line_feed = record { goes_on = λ rest. refl; read = λ rest. refl; some = omega arith }

carriage_return : IsPiece 13 (codes "&#13;")
unfolding rounds
carriage_return = record { goes_on = λ rest. refl; read = λ rest. refl; some = omega arith }

module _ (c : ℕ) (allowed : is_xml_character c ≡ true) where
  itself : (c == 34) ≡ false → (c == 38) ≡ false → IsPiece c (c ∷ [])
  itself q a = record {
    goes_on = λ rest. ap (λ t. not t || begins (34 ∷ 34 ∷ []) (c ∷ rest)) q;
    read = λ rest.
        ap (λ t. cond t (Gives 34 (drop 2 (c ∷ rest))) (cond (c == 38) (reference (c ∷ rest)) (character (c ∷ rest)))) q
        ∙ ap (λ t. cond t (reference (c ∷ rest)) (character (c ∷ rest))) a
        ∙ ap (λ t. cond t (Gives c rest) (Fails XPST0003)) allowed;
    some = omega arith;
  }

  -- where the character is the one of that piece, or else
  either : (d : ℕ) (piece other : List ℕ) → IsPiece d piece → ((c == d) ≡ false → IsPiece c other) → (t : Bool) → (c == d) ≡ t → IsPiece c (cond t piece other)
  either d piece other p q true e = subst (λ x. IsPiece x piece) (sym (eqb-true c d e)) p
  either d piece other p q false e = q e

  is_piece : IsPiece c (escaped c)
  is_piece =
      either 34 (34 ∷ 34 ∷ []) _ quote
      (λ q. either 38 (codes "&amp;") _ ampersand
      (λ a. either 9 (codes "&#9;") _ tab
      (λ _. either 10 (codes "&#10;") _ line_feed
      (λ _. either 13 (codes "&#13;") (c ∷ []) carriage_return (λ _. itself q a) (c == 13) refl) (c == 10) refl) (c == 9) refl) (c == 38) refl) (c == 34) refl

abbrev goes : List ℕ → List ℕ → Bool
goes _ text = is_in_string 34 text

one_round : (n : ℕ) (content piece rest : List ℕ) (c : ℕ) → IsPiece c piece → length content + length (encode_utf8 c) ≤ most_bytes
    → rounds goes (more_content 34) (suc n) content (piece ++ rest) ≡ rounds goes (more_content 34) n (content ++ encode_utf8 c) rest
unfolding rounds
one_round n content piece rest c p h =
    let fits : nat_lt most_bytes (length (content ++ encode_utf8 c)) ≡ false = le-ltb most_bytes (length (content ++ encode_utf8 c)) (omega (arith, length-append content (encode_utf8 c), h)) in
    ap (λ t. cond t (on_read (more_content 34 content (piece ++ rest)) (λ b after. rounds goes (more_content 34) n b after)) (Gives content (piece ++ rest))) (p.goes_on rest)
    ∙ ap (λ r. on_read (on_read r (longer content)) (λ b after. rounds goes (more_content 34) n b after)) (p.read rest)
    ∙ ap (λ t. on_read ((cond t (fails PXQ0002) (pure (content ++ encode_utf8 c))) rest) (λ b after. rounds goes (more_content 34) n b after)) fits

fills : (cs content rest : List ℕ) (n : ℕ) → All (λ c. is_xml_character c ≡ true) cs → length content + length (encode_utf8_all cs) ≤ most_bytes
    → rounds goes (more_content 34) (length cs + n) content (flat_map escaped cs ++ rest) ≡ rounds goes (more_content 34) n (content ++ encode_utf8_all cs) rest
fills [] content rest n each h = let same : 0 + n ≡ n = omega arith in ap (λ k. rounds goes (more_content 34) k content rest) same ∙ ap (λ b. rounds goes (more_content 34) n b rest) (sym (append-nil content))
fills (c ∷ cs) content rest n each h =
    let next : suc (length cs) + n ≡ suc (length cs + n) = omega arith in
    let sizes : length (encode_utf8 c ++ encode_utf8_all cs) ≡ length (encode_utf8 c) + length (encode_utf8_all cs) = length-append (encode_utf8 c) (encode_utf8_all cs) in
    let more : length (content ++ encode_utf8 c) ≡ length content + length (encode_utf8 c) = length-append content (encode_utf8 c) in
    ap₂ (λ k text. rounds goes (more_content 34) k content text) next (append_assoc (escaped c) (flat_map escaped cs) rest)
    ∙ one_round (length cs + n) content (escaped c) (flat_map escaped cs ++ rest) c (is_piece c (All-head (λ c. is_xml_character c ≡ true) c cs each)) (omega (arith, h, sizes))
    ∙ fills cs (content ++ encode_utf8 c) rest n (All-tail (λ c. is_xml_character c ≡ true) c cs each) (omega (arith, h, sizes, more))
    ∙ ap (λ b. rounds goes (more_content 34) n b rest) (append_assoc content (encode_utf8 c) (encode_utf8_all cs))

no_shorter : (cs : List ℕ) → All (λ c. is_xml_character c ≡ true) cs → length cs ≤ length (flat_map escaped cs)
no_shorter [] each = omega arith
no_shorter (c ∷ cs) each =
    omega (arith, length-append (escaped c) (flat_map escaped cs), (is_piece c (All-head (λ c. is_xml_character c ≡ true) c cs each)).some, no_shorter cs (All-tail (λ c. is_xml_character c ≡ true) c cs each))

module _ (cs after : List ℕ) (each : All (λ c. is_xml_character c ≡ true) cs) (short : length (encode_utf8_all cs) ≤ most_bytes) (closed : begins (34 ∷ 34 ∷ []) (34 ∷ after) ≡ false) where
  content_is : contents 34 (flat_map escaped cs ++ 34 ∷ after) ≡ Gives (encode_utf8_all cs) (34 ∷ after)
  content_is =
      let n : ℕ = length (flat_map escaped cs ++ 34 ∷ after) - length cs in
      let same : length (flat_map escaped cs ++ 34 ∷ after) ≡ length cs + n = omega (arith, no_shorter cs each, length-append (flat_map escaped cs) (34 ∷ after)) in
      ap (λ k. rounds goes (more_content 34) k [] (flat_map escaped cs ++ 34 ∷ after)) same
      ∙ fills cs [] (34 ∷ after) n each (omega (arith, short))
      ∙ ends goes (more_content 34) n (encode_utf8_all cs) (34 ∷ after) closed

  pub literal_is_read : token (34 ∷ flat_map escaped cs ++ 34 ∷ after) ≡ Gives (string (encode_utf8_all cs)) after
  literal_is_read = ap (λ r. on_read r (string_of 34)) content_is
