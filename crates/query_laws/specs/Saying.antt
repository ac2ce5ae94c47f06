-- What an expression says beside its parts.
use Rattle.std.specs.Prelude.{◌≡◌, ◌≤◌, ℕ, true, length, Option, Some, None}
use Rattle.std.specs.List.{All}
use Rattle.document_names.specs.Characters.{is_name}
use Rattle.query_tokens.specs.Limits.{max_integer}
use Rattle.query_grammar.specs.declared.ast.Binding.{Binding}
use Rattle.query_grammar.specs.declared.ast.Clause.{Clause}
use Rattle.query_grammar.specs.declared.ast.Clause.TheVariants as clause
use Rattle.query_grammar.specs.declared.ast.Expr.TheOpen.{Expr-F}
use Rattle.query_grammar.specs.declared.ast.Name.{Name}
use Rattle.query_grammar.specs.declared.ast.Name.TheVariants.{Written, Computed}
use Rattle.query_grammar.specs.declared.ast.NodeTest.{NodeTest}
use Rattle.query_grammar.specs.declared.ast.NodeTest.TheVariants as test
use Rattle.query_grammar.specs.declared.functions.Function.{Function}
use Rattle.query_grammar.specs.Functions.{takes}
use Rattle.query_laws.specs.Written.{IsXmlString}

-- a test of a name says a name; the other tests say none
abbrev pub TestSaysName : NodeTest → Type 0
TestSaysName (test.Name name) = is_name name ≡ true
TestSaysName _ = Unit {0}

abbrev pub SaysName : {A : Type 0} → Name A → Type 0
SaysName (Written name) = is_name name ≡ true
SaysName (Computed x) = Unit {0}

abbrev pub BindsName : {A : Type 0} → Binding A → Type 0
BindsName b = is_name b.variable ≡ true

abbrev pub ClauseBindsNames : {A : Type 0} → Clause A → Type 0
ClauseBindsNames (clause.For b) = BindsName b
ClauseBindsNames (clause.ForAt b at) = BindsName b × (is_name at ≡ true)
ClauseBindsNames (clause.Let b) = BindsName b

-- a function is called with as many arguments as it takes
abbrev pub TakesSoMany : Option Function → ℕ → Type 0
TakesSoMany None n = Unit {0}
TakesSoMany (Some f) n = takes n f ≡ true

-- each name is a name, a string has characters of XML alone, a number is none above the greatest, and calls are with as many arguments as are taken
abbrev pub SaysWell : {A : Type 0} → Expr-F A → Type 0
SaysWell (Expr-F.Integer n) = n ≤ max_integer
SaysWell (Expr-F.String s) = IsXmlString s
SaysWell (Expr-F.Variable name) = is_name name ≡ true
SaysWell (Expr-F.Call f xs) = TakesSoMany f (length xs)
SaysWell (Expr-F.Step axis t xs) = TestSaysName t
SaysWell (Expr-F.Element name x) = SaysName name
SaysWell (Expr-F.Attribute name x) = SaysName name
SaysWell (Expr-F.Instruction name x) = SaysName name
SaysWell (Expr-F.Quantified q bs x) = All BindsName bs
SaysWell (Expr-F.Flwor cs where? ks x) = All ClauseBindsNames cs
SaysWell (Expr-F.Copy bs x y) = All BindsName bs
SaysWell _ = Unit {0}
