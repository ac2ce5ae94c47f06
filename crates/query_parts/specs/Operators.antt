-- Operators, by how tightly they bind (XQuery 1.0, appendix A.4), and how loosely tokens stand after an operand.
use Rattle.std.specs.Prelude.{ℕ, Bool, true, false, ◌&&◌, nat_le, List, Option, Some, None}
use Rattle.query_tokens.specs.declared.kind.Kind.{Kind}
use Rattle.query_grammar.specs.declared.ast.Binary.{Binary}
use Rattle.query_tokens.specs.declared.token.Token.{Token}
use Rattle.query_grammar.specs.Loose.{looseness_of}
use Rattle.query_grammar.specs.Words.{intersect_operator, union_operator, multiply_operator, add_operator, range_operator, comparison_operator, and_operator, or_operator}
use Rattle.query_parts.specs.declared.precedence.Precedence.{Precedence}
use Rattle.query_parts.specs.declared.precedence.Precedence.TheVariants as precedence
use Rattle.query_parts.specs.declared.looseness.Looseness.{Looseness}
use Rattle.query_parts.specs.declared.looseness.Looseness.TheVariants as looseness

abbrev pub operator_at : Precedence → Kind → Option Binary
operator_at precedence.Intersection = intersect_operator
operator_at precedence.Union = union_operator
operator_at precedence.Multiplication = multiply_operator
operator_at precedence.Addition = add_operator
operator_at precedence.Range = range_operator
operator_at precedence.Comparison = comparison_operator
operator_at precedence.Conjunction = and_operator
operator_at precedence.Disjunction = or_operator

-- that of the next tighter operators
abbrev pub tighter : Precedence → Option Precedence
tighter precedence.Intersection = None
tighter precedence.Union = Some precedence.Intersection
tighter precedence.Multiplication = Some precedence.Union
tighter precedence.Addition = Some precedence.Multiplication
tighter precedence.Range = Some precedence.Addition
tighter precedence.Comparison = Some precedence.Range
tighter precedence.Conjunction = Some precedence.Comparison
tighter precedence.Disjunction = Some precedence.Conjunction

abbrev pub looseness_at : Precedence → ℕ
looseness_at precedence.Intersection = 3
looseness_at precedence.Union = 4
looseness_at precedence.Multiplication = 5
looseness_at precedence.Addition = 6
looseness_at precedence.Range = 7
looseness_at precedence.Comparison = 8
looseness_at precedence.Conjunction = 9
looseness_at precedence.Disjunction = 10

-- the level of what stands so loosely, in the grammar's numbers
abbrev pub level_of : Looseness → ℕ
level_of looseness.Never = 0
level_of looseness.Predicate = 1
level_of looseness.Step = 2
level_of (looseness.Operator p) = looseness_at p
level_of looseness.Direction = 11
level_of looseness.Comma = 12
level_of looseness.Clause = 13
level_of looseness.Where = 14
level_of looseness.Order = 15
level_of looseness.End = 16

-- whether the next token is one of them, or binds more tightly
abbrev pub goes_on : Precedence → List Token → Bool
goes_on p ts = nat_le 3 (looseness_of ts) && nat_le (looseness_of ts) (looseness_at p)

-- whether at most one of them stands between operands
abbrev pub is_once : Precedence → Bool
is_once precedence.Range = true
is_once precedence.Comparison = true
is_once _ = false
