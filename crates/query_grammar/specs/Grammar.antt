-- The productions (XQuery 1.0, appendix A.1, and XQuery Update Facility 1.0, appendix A.1, in the forms that are taken). Each stands
-- below its rule in EBNF. Keywords are names, and not reserved.
use Rattle.std.specs.Prelude.{◌≡◌, ℕ, zero, suc, Bool, true, false, nat_le, List, [], ◌∷◌, ◌++◌, length, map, Option, Some, None}
use Rattle.std.specs.List.{flat_map}
use Rattle.data_model.specs.declared.axis.Axis.{Axis}
use Rattle.data_model.specs.declared.axis.Axis.TheVariants as axis
use Rattle.query_tokens.specs.declared.kind.Kind.{Kind}
use Rattle.query_tokens.specs.declared.kind.Kind.TheVariants as k
use Rattle.query_tokens.specs.declared.token.Token.{Token}
use Rattle.query_tokens.specs.Words.{is_name_kind}
use Rattle.query_grammar.specs.declared.ast.Expr.{Expr}
use Rattle.query_grammar.specs.declared.ast.Expr.TheVariants as e
use Rattle.query_grammar.specs.declared.ast.Binary.{Binary}
use Rattle.query_grammar.specs.declared.ast.Binding.{Binding}
use Rattle.query_grammar.specs.declared.ast.Clause.{Clause}
use Rattle.query_grammar.specs.declared.ast.Clause.TheVariants as clause
use Rattle.query_grammar.specs.declared.ast.KindTest.TheVariants.{AnyNode}
use Rattle.query_grammar.specs.declared.ast.Name.{Name as NameOf}
use Rattle.query_grammar.specs.declared.ast.Name.TheVariants.{Written, Computed}
use Rattle.query_grammar.specs.declared.ast.NodeTest.{NodeTest}
use Rattle.query_grammar.specs.declared.ast.NodeTest.TheVariants as test
use Rattle.query_grammar.specs.declared.ast.Operation.{Operation}
use Rattle.query_grammar.specs.declared.ast.Place.{Place}
use Rattle.query_grammar.specs.declared.ast.Place.TheVariants as place
use Rattle.query_grammar.specs.declared.ast.Quantifier.{Quantifier}
use Rattle.query_grammar.specs.declared.ast.Quantifier.TheVariants as quantifier
use Rattle.query_grammar.specs.declared.ast.Sign.{Sign}
use Rattle.query_grammar.specs.declared.ast.SortKey.{SortKey}
use Rattle.query_grammar.specs.Functions.{function_of}
use Rattle.query_grammar.specs.Lang.{Lang, pure, ◌>>=◌, ◌>>◌, ◌∪◌, Many, tok, such, stands}
use Rattle.query_grammar.specs.Words.{axis_of, kind_test_of, is_function, sign_of, intersect_operator, union_operator, multiply_operator, add_operator, range_operator, comparison_operator, and_operator, or_operator}

-- P { "," P }
abbrev pub List1 : {A : Type 0} → Lang A → Lang (List A)
List1 P = do
  first ← P
  others ← Many (tok k.Comma >> P)
  pure (first ∷ others)

-- [ P { "," P } ]
abbrev pub List0 : {A : Type 0} → Lang A → Lang (List A)
List0 P = pure [] ∪ List1 P

-- a name
abbrev pub Name : Lang (List ℕ)
Name = such is_name_kind >>= (λ t. pure t.text)

-- "$" Name
abbrev pub Var : Lang (List ℕ)
Var = tok k.Dollar >> Name

-- one expression is itself; more are a sequence
abbrev pub of_list : List Expr → Expr
of_list [] = e.Sequence []
of_list (x ∷ []) = x
of_list (x ∷ y ∷ ys) = e.Sequence (x ∷ y ∷ ys)

-- Operators.

-- an expression that nothing follows is itself
abbrev pub chain_of : Expr → List (Operation Expr) → Expr
chain_of x [] = x
chain_of x (o ∷ os) = e.Chain x (o ∷ os)

-- op P
abbrev pub OperationOf : (Kind → Option Binary) → Lang Expr → Lang (Operation Expr)
OperationOf operator P = do
  op ← stands operator
  x ← P
  pure (record { operator = op; operand = x })

-- P { op P }
abbrev pub Chain : (Kind → Option Binary) → Lang Expr → Lang Expr
Chain operator P = do
  first ← P
  others ← Many (OperationOf operator P)
  pure (chain_of first others)

-- P [ op P ]
abbrev pub AtMostOnce : (Kind → Option Binary) → Lang Expr → Lang Expr
AtMostOnce operator P = P ∪ (do
  first ← P
  other ← OperationOf operator P
  pure (e.Chain first (other ∷ [])))

-- Paths.

-- Test = Name | "*" | KindName "(" ")"
abbrev pub Test : Lang NodeTest
Test =
    (Name >>= (λ name. pure (test.Name name)))
    ∪ (tok k.Star >> pure test.AnyName)
    ∪ (do
      kind ← stands kind_test_of
      tok k.OpenParen
      tok k.CloseParen
      pure (test.Kind kind))

-- An axis and a test; whether the test is bare, without an axis.
pub record AxisStep : Type 0 where
  pub axis : Axis
  pub test : NodeTest
  pub is_bare : Bool

-- Axis = AxisName "::" Test | "@" Test | Test | ".."
abbrev pub AxisOf : Lang AxisStep
AxisOf =
    (do
      axis ← stands axis_of
      tok k.ColonColon
      test ← Test
      pure (record { axis = axis; test = test; is_bare = false }))
    ∪ (do
      tok k.AtSign
      test ← Test
      pure (record { axis = axis.Attribute; test = test; is_bare = false }))
    ∪ (Test >>= (λ test. pure (record { axis = axis.Child; test = test; is_bare = true })))
    ∪ (tok k.DotDot >> pure (record { axis = axis.Parent; test = test.Kind AnyNode; is_bare = false }))

-- A step of a path: an axis step with its predicates, or a primary expression with its own.
pub data StepOf : Type 0 where
  OfAxis : AxisStep → List Expr → StepOf
  OfPrimary : Expr → List Expr → StepOf

-- a primary expression without predicates is itself
abbrev pub filter_of : Expr → List Expr → Expr
filter_of x [] = x
filter_of x (y ∷ ys) = e.Filter x (y ∷ ys)

-- the step as an expression
abbrev pub step_of : StepOf → Expr
step_of (OfAxis s predicates) = e.Step s.axis s.test predicates
step_of (OfPrimary x predicates) = filter_of x predicates

-- `/descendant-or-self::node()` and the step
abbrev pub deep : Expr → List Expr
deep x = e.Step axis.DescendantOrSelf (test.Kind AnyNode) [] ∷ x ∷ []

-- the step after `//`: a bare test without predicates is looked for among the descendants (our own)
abbrev pub deep_axis_step : AxisStep → Bool → List Expr → List Expr
deep_axis_step s true [] = e.Step axis.Descendant s.test [] ∷ []
deep_axis_step s true (x ∷ xs) = deep (e.Step s.axis s.test (x ∷ xs))
deep_axis_step s false predicates = deep (e.Step s.axis s.test predicates)

abbrev pub deep_step : StepOf → List Expr
deep_step (OfAxis s predicates) = deep_axis_step s s.is_bare predicates
deep_step (OfPrimary x predicates) = deep (filter_of x predicates)

-- the steps after the first, of one after `/` or `//`
abbrev pub steps_of : Bool → StepOf → List Expr
steps_of true s = deep_step s
steps_of false s = step_of s ∷ []

-- an expression that no step follows is itself
abbrev pub path_of : Expr → List Expr → Expr
path_of x [] = x
path_of x (y ∷ ys) = e.Path x (y ∷ ys)

-- "/" | "//": whether it is the second
abbrev pub Slash : Lang Bool
Slash = (tok k.Slash >> pure false) ∪ (tok k.SlashSlash >> pure true)

abbrev pub signed_of : List Sign → Expr → Expr
signed_of [] x = x
signed_of (s ∷ ss) x = e.Signed (s ∷ ss) x

-- Rules over those of Single, the expressions that no comma parts.
module _ (Single : Lang Expr) where
  -- Expr = Single { "," Single }
  abbrev pub Exprs : Lang Expr
  Exprs = List1 Single >>= (λ xs. pure (of_list xs))

  -- [ Expr ]
  abbrev pub Content : Lang Expr
  Content = pure (e.Sequence []) ∪ Exprs

  -- "(" [ Expr ] ")"
  abbrev pub Parens : Lang Expr
  Parens = do
    tok k.OpenParen
    x ← Content
    tok k.CloseParen
    pure x

  -- "{" Expr "}"
  abbrev pub Braces : Lang Expr
  Braces = do
    tok k.OpenBrace
    x ← Exprs
    tok k.CloseBrace
    pure x

  -- "{" [ Expr ] "}"
  abbrev pub Body : Lang Expr
  Body = do
    tok k.OpenBrace
    x ← Content
    tok k.CloseBrace
    pure x

  -- Call = Name "(" [ Single { "," Single } ] ")"
  abbrev pub Call : Lang Expr
  Call = do
    name ← such is_function
    tok k.OpenParen
    arguments ← List0 Single
    tok k.CloseParen
    pure (e.Call (function_of name.text (length arguments)) arguments)

  -- Name | "{" Expr "}"
  abbrev pub NameOrBraces : Lang (NameOf Expr)
  NameOrBraces = (Name >>= (λ name. pure (Written name))) ∪ (Braces >>= (λ x. pure (Computed x)))

  -- a constructor of a name and content
  abbrev pub Named : Kind → (NameOf Expr → Expr → Expr) → Lang Expr
  Named kind make = do
    tok kind
    name ← NameOrBraces
    content ← Body
    pure (make name content)

  -- Make = ( "document" | "text" | "comment" ) "{" Expr "}"
  --      | ( "element" | "attribute" | "processing-instruction" ) ( Name | "{" Expr "}" ) "{" [ Expr ] "}"
  abbrev pub Make : Lang Expr
  Make =
      ((tok k.Document >> Braces) >>= (λ x. pure (e.Document x)))
      ∪ ((tok k.Text >> Braces) >>= (λ x. pure (e.Text x)))
      ∪ ((tok k.Comment >> Braces) >>= (λ x. pure (e.Comment x)))
      ∪ Named k.Element e.Element
      ∪ Named k.Attribute e.Attribute
      ∪ Named k.ProcessingInstruction e.Instruction

  -- Primary = Number | String | Var | "(" [ Expr ] ")" | "." | Call | Make
  abbrev pub Primary : Lang Expr
  Primary =
      (tok k.Number >>= (λ t. pure (e.Integer t.number)))
      ∪ (tok k.String >>= (λ t. pure (e.String t.text)))
      ∪ (Var >>= (λ name. pure (e.Variable name)))
      ∪ Parens
      ∪ (tok k.Dot >> pure e.Context)
      ∪ Call
      ∪ Make

  -- "[" Expr "]"
  abbrev pub Predicate : Lang Expr
  Predicate = do
    tok k.OpenBracket
    x ← Exprs
    tok k.CloseBracket
    pure x

  -- Step = ( Primary | Axis ) { "[" Expr "]" }
  abbrev pub Step : Lang StepOf
  Step =
      (do
        x ← Primary
        predicates ← Many Predicate
        pure (OfPrimary x predicates))
      ∪ (do
        s ← AxisOf
        predicates ← Many Predicate
        pure (OfAxis s predicates))

  -- ( "/" | "//" ) Step
  abbrev pub Segment : Lang (List Expr)
  Segment = do
    is_deep ← Slash
    s ← Step
    pure (steps_of is_deep s)

  -- Path = Step { ( "/" | "//" ) Step }
  abbrev pub Path : Lang Expr
  Path = do
    first ← Step
    others ← Many Segment
    pure (path_of (step_of first) (flat_map (λ steps. steps) others))

  -- Unary = { "+" | "-" } Path
  abbrev pub Unary : Lang Expr
  Unary = do
    signs ← Many (stands sign_of)
    x ← Path
    pure (signed_of signs x)

  -- Inter = Unary { ( "intersect" | "except" ) Unary }
  abbrev pub Inter : Lang Expr
  Inter = Chain intersect_operator Unary

  -- Union = Inter { ( "union" | "|" ) Inter }
  abbrev pub Union : Lang Expr
  Union = Chain union_operator Inter

  -- Mul = Union { ( "*" | "idiv" | "mod" ) Union }
  abbrev pub Mul : Lang Expr
  Mul = Chain multiply_operator Union

  -- Add = Mul { ( "+" | "-" ) Mul }
  abbrev pub Add : Lang Expr
  Add = Chain add_operator Mul

  -- Range = Add [ "to" Add ]
  abbrev pub Range : Lang Expr
  Range = AtMostOnce range_operator Add

  -- Comp = Range [ CompOp Range ]
  abbrev pub Comp : Lang Expr
  Comp = AtMostOnce comparison_operator Range

  -- And = Comp { "and" Comp }
  abbrev pub And : Lang Expr
  And = Chain and_operator Comp

  -- Or = And { "or" And }
  abbrev pub Or : Lang Expr
  Or = Chain or_operator And

  -- If = "if" "(" Expr ")" "then" Single "else" Single
  abbrev pub If : Lang Expr
  If = do
    tok k.If
    tok k.OpenParen
    condition ← Exprs
    tok k.CloseParen
    tok k.Then
    x ← Single
    tok k.Else
    y ← Single
    pure (e.If condition x y)

  -- Var "in" Single
  abbrev pub In : Lang (Binding Expr)
  In = do
    name ← Var
    tok k.In
    x ← Single
    pure (record { variable = name; source = x })

  -- Set = Var ":=" Single
  abbrev pub Set : Lang (Binding Expr)
  Set = do
    name ← Var
    tok k.Assign
    x ← Single
    pure (record { variable = name; source = x })

  -- Bind = Var [ "at" Var ] "in" Single
  abbrev pub Bind : Lang (Clause Expr)
  Bind =
      (In >>= (λ b. pure (clause.For b)))
      ∪ (do
        name ← Var
        tok k.At
        at ← Var
        tok k.In
        x ← Single
        pure (clause.ForAt (record { variable = name; source = x }) at))

  -- Clause = "for" Bind { "," Bind } | "let" Set { "," Set }
  abbrev pub Clauses : Lang (List (Clause Expr))
  Clauses = (tok k.For >> List1 Bind) ∪ ((tok k.Let >> List1 Set) >>= (λ sets. pure (map clause.Let sets)))

  -- [ "where" Single ]
  abbrev pub Where : Lang (Option Expr)
  Where = pure None ∪ (tok k.Where >> Single >>= (λ x. pure (Some x)))

  -- [ "ascending" | "descending" ]: whether it is the second
  abbrev pub Direction : Lang Bool
  Direction = pure false ∪ (tok k.Ascending >> pure false) ∪ (tok k.Descending >> pure true)

  -- Key = Single [ "ascending" | "descending" ]
  abbrev pub Key : Lang (SortKey Expr)
  Key = do
    x ← Single
    descending ← Direction
    pure (record { key = x; is_descending = descending })

  -- [ "order" "by" Key { "," Key } ]
  abbrev pub OrderBy : Lang (List (SortKey Expr))
  OrderBy = pure [] ∪ (tok k.Order >> tok k.By >> List1 Key)

  -- Flwor = Clause { Clause } [ "where" Single ] [ "order" "by" Key { "," Key } ] "return" Single
  abbrev pub Flwor : Lang Expr
  Flwor = do
    first ← Clauses
    others ← Many Clauses
    condition ← Where
    keys ← OrderBy
    tok k.Return
    x ← Single
    pure (e.Flwor (first ++ flat_map (λ clauses. clauses) others) condition keys x)

  -- "some" | "every"
  abbrev pub WhichOf : Lang Quantifier
  WhichOf = (tok k.Some >> pure quantifier.Some) ∪ (tok k.Every >> pure quantifier.Every)

  -- Quant = ( "some" | "every" ) Var "in" Single { "," Var "in" Single } "satisfies" Single
  abbrev pub Quant : Lang Expr
  Quant = do
    which ← WhichOf
    bindings ← List1 In
    tok k.Satisfies
    x ← Single
    pure (e.Quantified which bindings x)

  -- "node" | "nodes"
  abbrev pub NodeOrNodes : Lang Token
  NodeOrNodes = tok k.Node ∪ tok k.Nodes

  -- Place = [ "as" ( "first" | "last" ) ] "into" | "after" | "before"
  abbrev pub PlaceOf : Lang Place
  PlaceOf =
      (tok k.Into >> pure place.Into)
      ∪ (tok k.As >> tok k.First >> tok k.Into >> pure place.FirstInto)
      ∪ (tok k.As >> tok k.Last >> tok k.Into >> pure place.LastInto)
      ∪ (tok k.After >> pure place.After)
      ∪ (tok k.Before >> pure place.Before)

  -- Insert = "insert" ( "node" | "nodes" ) Single Place Single
  abbrev pub Insert : Lang Expr
  Insert = do
    tok k.Insert
    NodeOrNodes
    source ← Single
    where_to ← PlaceOf
    target ← Single
    pure (e.Insert source where_to target)

  -- Delete = "delete" ( "node" | "nodes" ) Single
  abbrev pub Delete : Lang Expr
  Delete = do
    tok k.Delete
    NodeOrNodes
    target ← Single
    pure (e.Delete target)

  -- Replace = "replace" [ "value" "of" ] "node" Single "with" Single
  abbrev pub Replace : Lang Expr
  Replace =
      (do
        tok k.Replace
        tok k.Node
        target ← Single
        tok k.With
        source ← Single
        pure (e.ReplaceNode target source))
      ∪ (do
        tok k.Replace
        tok k.Value
        tok k.Of
        tok k.Node
        target ← Single
        tok k.With
        source ← Single
        pure (e.ReplaceValue target source))

  -- Rename = "rename" "node" Single "as" Single
  abbrev pub Rename : Lang Expr
  Rename = do
    tok k.Rename
    tok k.Node
    target ← Single
    tok k.As
    name ← Single
    pure (e.Rename target name)

  -- Copy = "copy" Set { "," Set } "modify" Single "return" Single, from level 2 on
  abbrev pub Copy : (level : ℕ) → Lang Expr
  Copy level = λ ts x rest. (nat_le 2 level ≡ true) × (do
    tok k.Copy
    bindings ← List1 Set
    tok k.Modify
    changes ← Single
    tok k.Return
    result ← Single
    pure (e.Copy bindings changes result)) ts x rest

-- Single = Flwor | Quant | If | Insert | Delete | Replace | Rename | Copy | Or, nested at most so deep
abbrev pub SingleOf : (level : ℕ) → (depth : ℕ) → Lang Expr
SingleOf level zero = λ ts x rest. ⊥
SingleOf level (suc n) =
    Flwor (SingleOf level n)
    ∪ Quant (SingleOf level n)
    ∪ If (SingleOf level n)
    ∪ Insert (SingleOf level n)
    ∪ Delete (SingleOf level n)
    ∪ Replace (SingleOf level n)
    ∪ Rename (SingleOf level n)
    ∪ Copy (SingleOf level n) level
    ∪ Or (SingleOf level n)

-- Query = Expr: all tokens are spelt as the expression
abbrev pub IsQuery : (level : ℕ) → List Token → Expr → Type 0
IsQuery level ts x = (n : ℕ) × Exprs (SingleOf level n) ts x []
