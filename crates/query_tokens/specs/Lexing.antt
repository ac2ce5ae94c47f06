-- The tokens of a text (XQuery 1.0, appendix A.2): the longest token is taken, and the first fault from the left wins.
use Rattle.std.specs.Prelude.{◌≡◌, All, ℕ, suc, ◌+◌, ◌-◌, ◌*◌, Bool, true, false, not, ◌&&◌, ◌||◌, ◌==◌, nat_le, nat_lt, if◌then◌else◌, List, [], ◌∷◌, ◌++◌, length, fold, codes, Option, Some, None}
use Rattle.std.specs.Char.{encode_utf8}
use Rattle.std.specs.Str.{bytes_eq}
use Rattle.data_model.specs.Limits.{most_bytes}
use Rattle.document_names.specs.Characters.{is_digit, is_name_start, is_name_character, is_xml_character}
use Rattle.fault_codes.specs.declared.code.Code.TheVariants.{XPST0003, XQST0090, PXQ0002}
use Rattle.query_tokens.specs.Limits.{max_integer}
use Rattle.query_tokens.specs.declared.kind.Kind.{Kind}
use Rattle.query_tokens.specs.declared.kind.Kind.TheVariants as kind
use Rattle.query_tokens.specs.declared.token.Token.{Token}
use Rattle.query_tokens.specs.Words.{kind_of, marks}
use Rattle.query_tokens.specs.Reading.{Gives, Fails, Reader, ◌>>=◌, ◌>>◌, pure, fails, begins, first_of, skip, mark, such, repeat}

-- characters are left
abbrev pub is_left : List ℕ → Bool
is_left [] = false
is_left (c ∷ cs) = true

-- the text goes on with such a character
abbrev pub goes_on : (ℕ → Bool) → List ℕ → Bool
goes_on p [] = false
goes_on p (c ∷ cs) = p c

-- the longest run of such characters
abbrev pub run_of : (ℕ → Bool) → Reader (List ℕ)
run_of p = repeat (λ _ text. goes_on p text) (λ found. such p >>= (λ c. pure (found ++ c ∷ []))) []

-- a character of XML 1.0
abbrev pub character : Reader ℕ
character = such is_xml_character

-- the front is the longest run of such characters, and the rest follows it
pub record IsRun (p : ℕ → Bool) (text front rest : List ℕ) : Type 0 where
  pub joined : text ≡ front ++ rest
  pub each : All (λ c. p c ≡ true) front
  pub longest : goes_on p rest ≡ false

-- What separates tokens.

-- space, tab, line feed, carriage return (XML 1.0, production S)
abbrev pub is_space : ℕ → Bool
is_space c = c == 32 || (c == 9 || (c == 10 || c == 13))

-- the comment, so many levels deep, goes on
abbrev pub is_inside : (depth : ℕ) → List ℕ → Bool
is_inside depth text = nat_lt 0 depth && is_left text

-- the next part of a comment: a deeper one begins, one ends, or a character
abbrev pub comment_part : (depth : ℕ) → Reader ℕ
comment_part depth text =
    if begins (codes "(:") text then (skip 2 >> pure (suc depth)) text
    else (if begins (codes ":)") text then (skip 2 >> pure (depth - 1)) text
    else (character >> pure depth) text)

-- a comment (production Comment), which may hold others
abbrev pub comment : Reader (Unit {0})
comment = mark (codes "(:") >> repeat is_inside comment_part 1 >>= (λ depth. if depth == 0 then pure tt else fails XPST0003)

-- whitespace or a comment stands there
abbrev pub is_separated : List ℕ → Bool
is_separated text = goes_on is_space text || begins (codes "(:") text

abbrev pub separator : Reader (Unit {0})
separator text = if begins (codes "(:") text then comment text else skip 1 text

abbrev pub separators : Reader (Unit {0})
separators = repeat (λ _ text. is_separated text) (λ _. separator) tt

-- Names and numbers.

-- a token without text and number
abbrev pub mark_token : Kind → Token
mark_token k = record { kind = k; text = []; number = 0 }

-- the token of a name or a word; the word `xmlns` is no name (our own)
abbrev pub name_of : List ℕ → Reader Token
name_of found = if bytes_eq found (codes "xmlns") then fails XPST0003 else pure (record { kind = kind_of found; text = found; number = 0 })

abbrev pub name : Reader Token
name = run_of is_name_character >>= name_of

-- the number that decimal digits spell
abbrev pub decimal_of : List ℕ → ℕ
decimal_of = fold (λ n d. 10 * n + (d - 48)) 0

-- the token of a number (production IntegerLiteral), which no name follows at once; one above the limit is refused (our own)
abbrev pub number_of : (digits : List ℕ) → Reader Token
number_of digits text =
    if goes_on is_name_start text || nat_lt max_integer (decimal_of digits) then Fails XPST0003
    else Gives (record { kind = kind.Number; text = []; number = decimal_of digits }) text

abbrev pub number : Reader Token
number = run_of is_digit >>= number_of

-- Strings (production StringLiteral).

-- the five references by name (production PredefinedEntityRef)
abbrev pub entities : List (List ℕ × ℕ)
entities = (codes "&lt;", 60) ∷ (codes "&gt;", 62) ∷ (codes "&amp;", 38) ∷ (codes "&quot;", 34) ∷ (codes "&apos;", 39) ∷ []

abbrev pub is_hex_digit : ℕ → Bool
is_hex_digit c = is_digit c || ((nat_le 65 c && nat_le c 70) || (nat_le 97 c && nat_le c 102))

-- what a digit stands for
abbrev pub digit_value : ℕ → ℕ
digit_value c = if is_digit c then c - 48 else (if nat_le 97 c then c - 87 else c - 55)

-- the number that digits of a base spell
abbrev pub value_of : (base : ℕ) → List ℕ → ℕ
value_of base = fold (λ n d. base * n + digit_value d) 0

-- the character of this number, which must be one of XML 1.0; without digits there is none
abbrev pub character_of : (base : ℕ) → (digits : List ℕ) → Reader ℕ
character_of base digits text =
    if length digits == 0 then Fails XPST0003
    else (if is_xml_character (value_of base digits) then Gives (value_of base digits) text else Fails XQST0090)

-- the digits end with `;`
abbrev pub closed : (base : ℕ) → (digits : List ℕ) → Reader ℕ
closed base digits = mark (codes ";") >> character_of base digits

-- after `&#` or `&#x`: digits and `;`
abbrev pub code_point : (base : ℕ) → (ℕ → Bool) → Reader ℕ
code_point base is_of_base = run_of is_of_base >>= closed base

-- a reference to a character (productions PredefinedEntityRef and CharRef)
abbrev pub named : Option (List ℕ × ℕ) → Reader ℕ
named (Some e) = skip (length e.0) >> pure e.1
named None = fails XPST0003

abbrev pub reference : Reader ℕ
reference text =
    if begins (codes "&#x") text then (skip 3 >> code_point 16 is_hex_digit) text
    else (if begins (codes "&#") text then (skip 2 >> code_point 10 is_digit) text
    else named (first_of entities text) text)

-- one character of a string's content: a quote that is doubled, a reference, or a character that stands for itself
abbrev pub content_character : (quote : ℕ) → Reader ℕ
content_character quote text =
    if goes_on (λ c. c == quote) text then (skip 2 >> pure quote) text
    else (if goes_on (λ c. c == 38) text then reference text else character text)

-- the string goes on: a quote that isn't doubled ends it
abbrev pub is_in_string : (quote : ℕ) → List ℕ → Bool
is_in_string quote text = is_left text && (not (goes_on (λ c. c == quote) text) || begins (quote ∷ quote ∷ []) text)

-- one character more, if that isn't too long
abbrev pub longer : List ℕ → ℕ → Reader (List ℕ)
longer content c = if nat_lt most_bytes (length (content ++ encode_utf8 c)) then fails PXQ0002 else pure (content ++ encode_utf8 c)

-- the next character of a string's content
abbrev pub more_content : (quote : ℕ) → List ℕ → Reader (List ℕ)
more_content quote content = content_character quote >>= longer content

-- what stands between two quotes, in UTF-8
abbrev pub contents : (quote : ℕ) → Reader (List ℕ)
contents quote = repeat (λ _ text. is_in_string quote text) (more_content quote) []

-- the quote that ends the string, and its token
abbrev pub string_of : (quote : ℕ) → (content : List ℕ) → Reader Token
string_of quote content = mark (quote ∷ []) >> pure (record { kind = kind.String; text = content; number = 0 })

abbrev pub string : (quote : ℕ) → Reader Token
string quote = skip 1 >> contents quote >>= string_of quote

-- Tokens.

-- one of the marks, the longer ones tried first
abbrev pub marked : Option (List ℕ × Kind) → Reader Token
marked (Some m) = skip (length m.0) >> pure (mark_token m.1)
marked None = fails XPST0003

-- the token that the text begins with
abbrev pub token : Reader Token
token text =
    if goes_on is_name_start text then name text
    else (if goes_on is_digit text then number text
    else (if goes_on (λ c. c == 34) text then string 34 text
    else (if goes_on (λ c. c == 39) text then string 39 text
    else marked (first_of marks text) text)))

-- a token, and what separates it from the next
abbrev pub next_token : List Token → Reader (List Token)
next_token found = token >>= (λ t. separators >> pure (found ++ t ∷ []))

-- the tokens of the whole text
unfoldable pub tokens : Reader (List Token)
tokens = separators >> repeat (λ _ text. is_left text) next_token []
