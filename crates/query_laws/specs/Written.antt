-- What is written in a text.
use Rattle.std.specs.Prelude.{◌≡◌, ◌≢◌, ◌≤◌, ◌⊎◌, ℕ, true, List, [], length}
use Rattle.std.specs.List.{list_all}
use Rattle.std.specs.Str.{encode_utf8_all}
use Rattle.document_names.specs.Characters.{is_name, is_xml_character}
use Rattle.query_tokens.specs.declared.kind.Kind.TheVariants as kind
use Rattle.query_tokens.specs.declared.token.Token.{Token}
use Rattle.data_model.specs.Limits.{most_bytes}

-- the UTF-8 of characters of XML 1.0, of as many bytes at most as a string has
pub record IsXmlString (bytes : List ℕ) : Type 0 where
  pub characters : List ℕ
  pub allowed : list_all is_xml_character characters ≡ true
  pub utf8 : bytes ≡ encode_utf8_all characters
  pub short : length bytes ≤ most_bytes

-- a token that is a string has such a content
abbrev pub HasXmlString : Token → Type 0
HasXmlString t = t.kind ≡ kind.String → IsXmlString t.text

-- a token that is no string says nothing beside its kind, or a name
abbrev pub HasName : Token → Type 0
HasName t = t.kind ≢ kind.String → (t.text ≡ []) ⊎ (is_name t.text ≡ true)
