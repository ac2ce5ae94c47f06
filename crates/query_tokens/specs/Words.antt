-- The words of the grammar and its marks.
use Rattle.std.specs.Prelude.{ℕ, Bool, true, false, ◌&&◌, nat_le, if◌then◌else◌, List, [], ◌∷◌, ◌++◌, codes, Option, option_map}
use Rattle.std.specs.Str.{bytes_eq}
use Rattle.query_tokens.specs.Reading.{first_of}
use Rattle.query_tokens.specs.declared.kind.Kind.{Kind}
use Rattle.query_tokens.specs.declared.kind.Kind.TheVariants as kind

-- each word, and its kind
abbrev pub words : List (List ℕ × Kind)
words =
    (codes "after", kind.After) ∷
    (codes "ancestor", kind.Ancestor) ∷
    (codes "and", kind.And) ∷
    (codes "as", kind.As) ∷
    (codes "ascending", kind.Ascending) ∷
    (codes "at", kind.At) ∷
    (codes "attribute", kind.Attribute) ∷
    (codes "before", kind.Before) ∷
    (codes "by", kind.By) ∷
    (codes "child", kind.Child) ∷
    (codes "comment", kind.Comment) ∷
    (codes "copy", kind.Copy) ∷
    (codes "delete", kind.Delete) ∷
    (codes "descendant", kind.Descendant) ∷
    (codes "descendant-or-self", kind.DescendantOrSelf) ∷
    (codes "descending", kind.Descending) ∷
    (codes "document", kind.Document) ∷
    (codes "document-node", kind.DocumentNode) ∷
    (codes "element", kind.Element) ∷
    (codes "else", kind.Else) ∷
    (codes "eq", kind.Eq) ∷
    (codes "every", kind.Every) ∷
    (codes "except", kind.Except) ∷
    (codes "first", kind.First) ∷
    (codes "following-sibling", kind.FollowingSibling) ∷
    (codes "for", kind.For) ∷
    (codes "ge", kind.Ge) ∷
    (codes "gt", kind.Gt) ∷
    (codes "idiv", kind.Idiv) ∷
    (codes "if", kind.If) ∷
    (codes "in", kind.In) ∷
    (codes "insert", kind.Insert) ∷
    (codes "intersect", kind.Intersect) ∷
    (codes "into", kind.Into) ∷
    (codes "is", kind.Is) ∷
    (codes "last", kind.Last) ∷
    (codes "le", kind.Le) ∷
    (codes "let", kind.Let) ∷
    (codes "lt", kind.Lt) ∷
    (codes "mod", kind.Mod) ∷
    (codes "modify", kind.Modify) ∷
    (codes "ne", kind.Ne) ∷
    (codes "node", kind.Node) ∷
    (codes "nodes", kind.Nodes) ∷
    (codes "of", kind.Of) ∷
    (codes "or", kind.Or) ∷
    (codes "order", kind.Order) ∷
    (codes "parent", kind.Parent) ∷
    (codes "preceding-sibling", kind.PrecedingSibling) ∷
    (codes "processing-instruction", kind.ProcessingInstruction) ∷
    (codes "rename", kind.Rename) ∷
    (codes "replace", kind.Replace) ∷
    (codes "return", kind.Return) ∷
    (codes "satisfies", kind.Satisfies) ∷
    (codes "self", kind.SelfAxis) ∷
    (codes "some", kind.Some) ∷
    (codes "text", kind.Text) ∷
    (codes "then", kind.Then) ∷
    (codes "to", kind.To) ∷
    (codes "union", kind.Union) ∷
    (codes "value", kind.Value) ∷
    (codes "where", kind.Where) ∷
    (codes "with", kind.With) ∷ []

-- the kind of that word in the list, or a name
abbrev pub kind_in : List (List ℕ × Kind) → List ℕ → Kind
kind_in [] name = kind.Name
kind_in (w ∷ ws) name = if bytes_eq w.0 name then w.1 else kind_in ws name

-- the kind of a name: a word's own, or that of other names
unfoldable pub kind_of : List ℕ → Kind
kind_of = kind_in words

-- the name begins with a character from the one to the other
abbrev pub begins_between : (low high : ℕ) → List ℕ → Bool
begins_between low high [] = false
begins_between low high (c ∷ cs) = nat_le low c && nat_le c high

-- each mark of two characters, and each of one
unfoldable pub pairs : List (List ℕ × Kind)
pairs =
    (codes ":=", kind.Assign) ∷
    (codes "::", kind.ColonColon) ∷
    (codes "..", kind.DotDot) ∷
    (codes "//", kind.SlashSlash) ∷
    (codes "!=", kind.NotEqual) ∷
    (codes "<=", kind.LessOrEqual) ∷
    (codes ">=", kind.GreaterOrEqual) ∷
    (codes "<<", kind.Precedes) ∷
    (codes ">>", kind.Follows) ∷ []

unfoldable pub singles : List (List ℕ × Kind)
singles =
    (codes "(", kind.OpenParen) ∷
    (codes ")", kind.CloseParen) ∷
    (codes "[", kind.OpenBracket) ∷
    (codes "]", kind.CloseBracket) ∷
    (codes "{", kind.OpenBrace) ∷
    (codes "}", kind.CloseBrace) ∷
    (codes ",", kind.Comma) ∷
    (codes "$", kind.Dollar) ∷
    (codes "@", kind.AtSign) ∷
    (codes ".", kind.Dot) ∷
    (codes "/", kind.Slash) ∷
    (codes "*", kind.Star) ∷
    (codes "+", kind.Plus) ∷
    (codes "-", kind.Minus) ∷
    (codes "|", kind.Bar) ∷
    (codes "=", kind.Equal) ∷
    (codes "<", kind.Less) ∷
    (codes ">", kind.Greater) ∷ []

-- all marks: the longer are tried first
unfoldable pub marks : List (List ℕ × Kind)
marks = pairs ++ singles

-- the kind of the mark of these that the text begins with
abbrev pub first_kind : List (List ℕ × Kind) → List ℕ → Option Kind
first_kind ms text = option_map (λ m. m.1) (first_of ms text)

-- Each word is a name too.
abbrev pub is_name_kind : Kind → Bool
is_name_kind kind.End = false
is_name_kind kind.Number = false
is_name_kind kind.String = false
is_name_kind kind.OpenParen = false
is_name_kind kind.CloseParen = false
is_name_kind kind.OpenBracket = false
is_name_kind kind.CloseBracket = false
is_name_kind kind.OpenBrace = false
is_name_kind kind.CloseBrace = false
is_name_kind kind.Comma = false
is_name_kind kind.Dollar = false
is_name_kind kind.Assign = false
is_name_kind kind.ColonColon = false
is_name_kind kind.AtSign = false
is_name_kind kind.Dot = false
is_name_kind kind.DotDot = false
is_name_kind kind.Slash = false
is_name_kind kind.SlashSlash = false
is_name_kind kind.Star = false
is_name_kind kind.Plus = false
is_name_kind kind.Minus = false
is_name_kind kind.Bar = false
is_name_kind kind.Equal = false
is_name_kind kind.NotEqual = false
is_name_kind kind.Less = false
is_name_kind kind.LessOrEqual = false
is_name_kind kind.Greater = false
is_name_kind kind.GreaterOrEqual = false
is_name_kind kind.Precedes = false
is_name_kind kind.Follows = false
is_name_kind _ = true
