-- What single tokens stand for in the grammar.
use Rattle.std.specs.Prelude.{Bool, false, Option, Some, None}
use Rattle.data_model.specs.declared.axis.Axis.{Axis}
use Rattle.data_model.specs.declared.axis.Axis.TheVariants as axis
use Rattle.values.specs.declared.compare.Comparison.TheVariants.{Equal, NotEqual, Less, LessOrEqual, Greater, GreaterOrEqual}
use Rattle.values.specs.declared.operators.Operator.TheVariants.{Add, Subtract, Multiply, IntegerDivide, Modulo}
use Rattle.query_tokens.specs.declared.kind.Kind.{Kind}
use Rattle.query_tokens.specs.declared.kind.Kind.TheVariants as k
use Rattle.query_tokens.specs.Words.{is_name_kind}
use Rattle.query_grammar.specs.declared.ast.Binary.{Binary}
use Rattle.query_grammar.specs.declared.ast.Binary.TheVariants as binary
use Rattle.query_grammar.specs.declared.ast.KindTest.{KindTest}
use Rattle.query_grammar.specs.declared.ast.KindTest.TheVariants as kind_test
use Rattle.query_grammar.specs.declared.ast.Sign.{Sign}
use Rattle.query_grammar.specs.declared.ast.Sign.TheVariants.{Plus, Minus}

-- the axis of a word before `::`
abbrev pub axis_of : Kind → Option Axis
axis_of k.Child = Some axis.Child
axis_of k.Descendant = Some axis.Descendant
axis_of k.DescendantOrSelf = Some axis.DescendantOrSelf
axis_of k.SelfAxis = Some axis.SelfAxis
axis_of k.Attribute = Some axis.Attribute
axis_of k.Parent = Some axis.Parent
axis_of k.Ancestor = Some axis.Ancestor
axis_of k.FollowingSibling = Some axis.FollowingSibling
axis_of k.PrecedingSibling = Some axis.PrecedingSibling
axis_of _ = None

-- the kind test of a word before `()`
abbrev pub kind_test_of : Kind → Option KindTest
kind_test_of k.Node = Some kind_test.AnyNode
kind_test_of k.DocumentNode = Some kind_test.Document
kind_test_of k.Element = Some kind_test.Element
kind_test_of k.Text = Some kind_test.Text
kind_test_of k.Comment = Some kind_test.Comment
kind_test_of k.ProcessingInstruction = Some kind_test.Instruction
kind_test_of _ = None

-- a name that a function may have: neither `if` nor the name of a kind test (XQuery 1.0, appendix A.3)
abbrev pub is_function : Kind → Bool
is_function k.If = false
is_function k.Node = false
is_function k.DocumentNode = false
is_function k.Element = false
is_function k.Text = false
is_function k.Comment = false
is_function k.ProcessingInstruction = false
is_function kind = is_name_kind kind

abbrev pub sign_of : Kind → Option Sign
sign_of k.Plus = Some Plus
sign_of k.Minus = Some Minus
sign_of _ = None

-- the operators, by level from the tightest: intersect and except; union; multiplication; addition; to; comparison; and; or
abbrev pub intersect_operator : Kind → Option Binary
intersect_operator k.Intersect = Some binary.Intersect
intersect_operator k.Except = Some binary.Except
intersect_operator _ = None

abbrev pub union_operator : Kind → Option Binary
union_operator k.Union = Some binary.Union
union_operator k.Bar = Some binary.Union
union_operator _ = None

abbrev pub multiply_operator : Kind → Option Binary
multiply_operator k.Star = Some (binary.Arithmetic Multiply)
multiply_operator k.Idiv = Some (binary.Arithmetic IntegerDivide)
multiply_operator k.Mod = Some (binary.Arithmetic Modulo)
multiply_operator _ = None

abbrev pub add_operator : Kind → Option Binary
add_operator k.Plus = Some (binary.Arithmetic Add)
add_operator k.Minus = Some (binary.Arithmetic Subtract)
add_operator _ = None

abbrev pub range_operator : Kind → Option Binary
range_operator k.To = Some binary.To
range_operator _ = None

abbrev pub comparison_operator : Kind → Option Binary
comparison_operator k.Equal = Some (binary.General Equal)
comparison_operator k.NotEqual = Some (binary.General NotEqual)
comparison_operator k.Less = Some (binary.General Less)
comparison_operator k.LessOrEqual = Some (binary.General LessOrEqual)
comparison_operator k.Greater = Some (binary.General Greater)
comparison_operator k.GreaterOrEqual = Some (binary.General GreaterOrEqual)
comparison_operator k.Eq = Some (binary.Value Equal)
comparison_operator k.Ne = Some (binary.Value NotEqual)
comparison_operator k.Lt = Some (binary.Value Less)
comparison_operator k.Le = Some (binary.Value LessOrEqual)
comparison_operator k.Gt = Some (binary.Value Greater)
comparison_operator k.Ge = Some (binary.Value GreaterOrEqual)
comparison_operator k.Is = Some binary.Is
comparison_operator k.Precedes = Some binary.Precedes
comparison_operator k.Follows = Some binary.Follows
comparison_operator _ = None

abbrev pub and_operator : Kind → Option Binary
and_operator k.And = Some binary.And
and_operator _ = None

abbrev pub or_operator : Kind → Option Binary
or_operator k.Or = Some binary.Or
or_operator _ = None
