-- How loosely a token stands after an operand.
use Rattle.std.specs.Prelude.{ℕ, List}
use Rattle.query_tokens.specs.declared.kind.Kind.{Kind}
use Rattle.query_tokens.specs.declared.kind.Kind.TheVariants as k
use Rattle.query_tokens.specs.declared.token.Token.{Token}
use Rattle.query_tokens.specs.Cursor.{kind_at}

-- 1 goes on with a step and 2 with a path, 3 to 10 are the levels of operators from the tightest, 11 is the direction of a key,
-- 12 goes on with a list, 13 with clauses, 14 and 15 are the parts before a `return`, 16 ends each of these, and 0 never stands
-- after an operand.
abbrev pub looseness : Kind → ℕ
looseness k.OpenBracket = 1
looseness k.Slash = 2
looseness k.SlashSlash = 2
looseness k.Intersect = 3
looseness k.Except = 3
looseness k.Union = 4
looseness k.Bar = 4
looseness k.Star = 5
looseness k.Idiv = 5
looseness k.Mod = 5
looseness k.Plus = 6
looseness k.Minus = 6
looseness k.To = 7
looseness k.Equal = 8
looseness k.NotEqual = 8
looseness k.Less = 8
looseness k.LessOrEqual = 8
looseness k.Greater = 8
looseness k.GreaterOrEqual = 8
looseness k.Eq = 8
looseness k.Ne = 8
looseness k.Lt = 8
looseness k.Le = 8
looseness k.Gt = 8
looseness k.Ge = 8
looseness k.Is = 8
looseness k.Precedes = 8
looseness k.Follows = 8
looseness k.And = 9
looseness k.Or = 10
looseness k.Ascending = 11
looseness k.Descending = 11
looseness k.Comma = 12
looseness k.For = 13
looseness k.Let = 13
looseness k.Where = 14
looseness k.Order = 15
looseness k.End = 16
looseness k.CloseParen = 16
looseness k.CloseBracket = 16
looseness k.CloseBrace = 16
looseness k.Return = 16
looseness k.Satisfies = 16
looseness k.Then = 16
looseness k.Else = 16
looseness k.Into = 16
looseness k.As = 16
looseness k.After = 16
looseness k.Before = 16
looseness k.With = 16
looseness k.Modify = 16
looseness _ = 0

-- that of the next token
abbrev pub looseness_of : List Token → ℕ
looseness_of ts = looseness (kind_at 0 ts)
