-- How tokens are spelt, and what separates them (XQuery 1.0, appendix A.2), in the standard's productions: no reader, and no longest match.
use Rattle.std.specs.Prelude.{◌≡◌, ◌≢◌, ◌≤◌, ◌⊎◌, ℕ, true, false, ◌||◌, List, [], ◌∷◌, ◌++◌, length, codes, slice_get, Some}
use Rattle.std.specs.List.{list_all}
use Rattle.std.specs.Char.{encode_utf8}
use Rattle.std.specs.Str.{bytes_eq}
use Rattle.document_names.specs.Characters.{is_digit, is_name_start, is_name_character, is_xml_character}
use Rattle.query_tokens.specs.declared.kind.Kind.{Kind}
use Rattle.query_tokens.specs.declared.kind.Kind.TheVariants as kind
use Rattle.query_tokens.specs.declared.token.Token.{Token}
use Rattle.data_model.specs.Limits.{most_bytes}
use Rattle.query_tokens.specs.Lexing.{decimal_of, entities, goes_on, is_hex_digit, is_space, mark_token, value_of}
use Rattle.query_tokens.specs.Limits.{max_integer}
use Rattle.query_tokens.specs.Reading.{begins}
use Rattle.query_tokens.specs.Words.{kind_of, marks}

-- Separators.

-- what stands in a comment, up to its end (productions Comment, CommentContents)
pub data EndsComment : List ℕ → Type 0 where
  End : EndsComment (codes ":)")
  Character : (c : ℕ) (cs : List ℕ) → is_xml_character c ≡ true → begins (codes "(:") (c ∷ cs) ≡ false → begins (codes ":)") (c ∷ cs) ≡ false → EndsComment cs → EndsComment (c ∷ cs)
  Inner : (cs ds : List ℕ) → EndsComment cs → EndsComment ds → EndsComment (codes "(:" ++ (cs ++ ds))

-- whitespace and comments, or nothing
pub data IsSeparation : List ℕ → Type 0 where
  NoSeparator : IsSeparation []
  Space : (c : ℕ) (cs : List ℕ) → is_space c ≡ true → IsSeparation cs → IsSeparation (c ∷ cs)
  Comment : (cs ds : List ℕ) → EndsComment cs → IsSeparation ds → IsSeparation (codes "(:" ++ (cs ++ ds))

-- Tokens.

-- what stands between quotes, and the UTF-8 of the characters that it stands for (productions StringLiteral, PredefinedEntityRef, CharRef)
pub data IsContent (quote : ℕ) : (content spelling : List ℕ) → Type 0 where
  Nothing : IsContent quote [] []
  Itself : (c : ℕ) (content cs : List ℕ) → is_xml_character c ≡ true → c ≢ quote → c ≢ 38 → IsContent quote content cs → IsContent quote (encode_utf8 c ++ content) (c ∷ cs)
  Doubled : (content cs : List ℕ) → IsContent quote content cs → IsContent quote (encode_utf8 quote ++ content) (quote ∷ quote ∷ cs)
  Named : (k : ℕ) (e : List ℕ × ℕ) (content cs : List ℕ) → slice_get entities k ≡ Some e → IsContent quote content cs → IsContent quote (encode_utf8 e.1 ++ content) (e.0 ++ cs)
  Decimal : (d : ℕ) (ds content cs : List ℕ) → list_all is_digit (d ∷ ds) ≡ true → is_xml_character (value_of 10 (d ∷ ds)) ≡ true → IsContent quote content cs
      → IsContent quote (encode_utf8 (value_of 10 (d ∷ ds)) ++ content) (codes "&#" ++ ((d ∷ ds) ++ (59 ∷ cs)))
  Hexadecimal : (d : ℕ) (ds content cs : List ℕ) → list_all is_hex_digit (d ∷ ds) ≡ true → is_xml_character (value_of 16 (d ∷ ds)) ≡ true → IsContent quote content cs
      → IsContent quote (encode_utf8 (value_of 16 (d ∷ ds)) ++ content) (codes "&#x" ++ ((d ∷ ds) ++ (59 ∷ cs)))

-- a token and its spelling
pub data IsSpeltToken : Token → List ℕ → Type 0 where
  Word : (c : ℕ) (cs : List ℕ) → is_name_start c ≡ true → list_all is_name_character cs ≡ true → bytes_eq (c ∷ cs) (codes "xmlns") ≡ false
      → IsSpeltToken (record { kind = kind_of (c ∷ cs); text = c ∷ cs; number = 0 }) (c ∷ cs)
  Number : (d : ℕ) (ds : List ℕ) → list_all is_digit (d ∷ ds) ≡ true → decimal_of (d ∷ ds) ≤ max_integer → IsSpeltToken (record { kind = kind.Number; text = []; number = decimal_of (d ∷ ds) }) (d ∷ ds)
  String : (quote : ℕ) (content cs : List ℕ) → (quote ≡ 34) ⊎ (quote ≡ 39) → IsContent quote content cs → length content ≤ most_bytes
      → IsSpeltToken (record { kind = kind.String; text = content; number = 0 }) (quote ∷ (cs ++ (quote ∷ [])))
  Mark : (k : ℕ) (m : List ℕ × Kind) → slice_get marks k ≡ Some m → IsSpeltToken (mark_token m.1) m.0

-- The text after a token does not make another one of it: it is empty, it begins with a separator, or the token is a word or a number and no
-- name goes on there.
abbrev pub IsApart : (token after : List ℕ) → Type 0
IsApart cs [] = Unit {0}
IsApart cs (d ∷ ds) =
    (is_space d ≡ true) ⊎ ((begins (codes "(:") (d ∷ ds) ≡ true) ⊎ ((goes_on (λ c. is_name_start c || is_digit c) cs ≡ true) × (is_name_character d ≡ false)))

-- tokens one after the other, with separators before, between and after them
pub data AreSpelt : List Token → List ℕ → Type 0 where
  NoToken : AreSpelt [] []
  OneMore : (t : Token) (ts : List Token) (cs between rest : List ℕ) → IsSpeltToken t cs → IsSeparation between → AreSpelt ts rest → IsApart cs (between ++ rest) → AreSpelt (t ∷ ts) (cs ++ (between ++ rest))

pub record IsSpeltAs (text : List ℕ) (ts : List Token) : Type 0 where
  pub before : List ℕ
  pub rest : List ℕ
  pub joined : text ≡ before ++ rest
  pub separation : IsSeparation before
  pub tokens : AreSpelt ts rest
