-- The data of the worked examples.
use Rattle.std.specs.Prelude.{ℕ, List, []}
use Rattle.query_tokens.specs.declared.kind.Kind.{Kind}
use Rattle.query_tokens.specs.declared.kind.Kind.TheVariants as kind
use Rattle.query_tokens.specs.declared.token.Token.{Token}
use Rattle.query_tokens.specs.Reading.{Read, Gives}

-- the token of a name or a word, of a number and of a string
abbrev pub word : Kind → List ℕ → Token
word k text = record { kind = k; text = text; number = 0 }

abbrev pub name : List ℕ → Token
name = word kind.Name

abbrev pub number : ℕ → Token
number n = record { kind = kind.Number; text = []; number = n }

abbrev pub string : List ℕ → Token
string = word kind.String

-- the whole text was read
abbrev pub all : List Token → Read (List Token)
all ts = Gives ts []
