-- The data of the worked examples.
use Rattle.std.specs.Prelude.{ℕ, List, [], ◌∷◌, codes, Option}
use Rattle.data_model.specs.declared.axis.Axis.{Axis}
use Rattle.data_model.specs.declared.axis.Axis.TheVariants as axis
use Rattle.query_grammar.specs.declared.ast.Binary.{Binary}
use Rattle.query_grammar.specs.declared.ast.Expr.{Expr}
use Rattle.query_grammar.specs.declared.ast.Expr.TheVariants as e
use Rattle.query_grammar.specs.declared.ast.KindTest.{KindTest}
use Rattle.query_grammar.specs.declared.ast.NodeTest.TheVariants as test
use Rattle.query_grammar.specs.declared.ast.Operation.{Operation}
use Rattle.query_grammar.specs.declared.functions.Function.{Function}
use Rattle.query_grammar.specs.Functions.{function_of}

-- the element children of that name
abbrev pub child : List ℕ → Expr
child name = e.Step axis.Child (test.Name name) []

abbrev pub a : Expr
a = child (codes "a")

abbrev pub b : Expr
b = child (codes "b")

abbrev pub c : Expr
c = child (codes "c")

abbrev pub none : Expr
none = e.Sequence []

-- the nodes on an axis that are named `a`
abbrev pub on : Axis → Expr
on axis = e.Step axis (test.Name (codes "a")) []

-- the children of a kind
abbrev pub of_kind : KindTest → Expr
of_kind kind = e.Step axis.Child (test.Kind kind) []

-- an operator and its right operand
abbrev pub then : Binary → Expr → Operation Expr
then operator x = record { operator = operator; operand = x }

-- one operator between `a` and `b`
abbrev pub between : Binary → Expr
between operator = e.Chain a (then operator b ∷ [])

-- the functions that are called by that name with none, one, two and three arguments
abbrev pub called : List ℕ → List (Option Function)
called name = function_of name 0 ∷ function_of name 1 ∷ function_of name 2 ∷ function_of name 3 ∷ []
