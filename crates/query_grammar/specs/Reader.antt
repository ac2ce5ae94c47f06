-- The reader of each production: it reads as the production does, and the next token, or the next two or three, say which
-- alternative to take. What follows an operand goes on with it as long as it stands tight enough.
use Rattle.std.specs.Prelude.{ℕ, zero, suc, Bool, true, false, ◌&&◌, ◌||◌, if◌then◌else◌, nat_le, List, [], ◌∷◌, ◌++◌, map, length, Option, Some, None}
use Rattle.std.specs.List.{flat_map}
use Rattle.data_model.specs.declared.axis.Axis.TheVariants as axis
use Rattle.query_tokens.specs.declared.kind.Kind.{Kind}
use Rattle.query_tokens.specs.declared.kind.Kind.TheVariants as k
use Rattle.query_tokens.specs.declared.token.Token.{Token}
use Rattle.query_tokens.specs.Cursor.{kind_at}
use Rattle.query_tokens.specs.Words.{is_name_kind}
use Rattle.query_grammar.specs.declared.ast.Expr.{Expr}
use Rattle.query_grammar.specs.declared.ast.Expr.TheVariants as e
use Rattle.query_grammar.specs.declared.ast.Binary.{Binary}
use Rattle.query_grammar.specs.declared.ast.Binding.{Binding}
use Rattle.query_grammar.specs.declared.ast.Clause.{Clause}
use Rattle.query_grammar.specs.declared.ast.Clause.TheVariants as clause
use Rattle.query_grammar.specs.declared.ast.KindTest.TheVariants.{AnyNode}
use Rattle.query_grammar.specs.declared.ast.Name.{Name as NameOf}
use Rattle.query_grammar.specs.declared.ast.Name.TheVariants.{Written, Computed}
use Rattle.query_grammar.specs.declared.ast.NodeTest.{NodeTest}
use Rattle.query_grammar.specs.declared.ast.NodeTest.TheVariants as test
use Rattle.query_grammar.specs.declared.ast.Operation.{Operation}
use Rattle.query_grammar.specs.declared.ast.Place.{Place}
use Rattle.query_grammar.specs.declared.ast.Place.TheVariants as place
use Rattle.query_grammar.specs.declared.ast.Quantifier.{Quantifier}
use Rattle.query_grammar.specs.declared.ast.Quantifier.TheVariants as quantifier
use Rattle.query_grammar.specs.declared.ast.SortKey.{SortKey}
use Rattle.query_grammar.specs.Functions.{function_of}
use Rattle.query_grammar.specs.Grammar.{AxisStep, StepOf, OfAxis, OfPrimary, of_list, chain_of, step_of, steps_of, path_of, signed_of}
use Rattle.query_grammar.specs.Reading.{Reader, pure, refuse, ◌>>=◌, ◌>>◌, choose, same_kind, sees, at_level, take_if, eat, take_as, many}
use Rattle.query_grammar.specs.Words.{axis_of, kind_test_of, is_function, sign_of, intersect_operator, union_operator, multiply_operator, add_operator, range_operator, comparison_operator, and_operator, or_operator}

abbrev pub is_some : {A : Type 0} → Option A → Bool
is_some None = false
is_some (Some _) = true

unfoldable pub list1 : {A : Type 0} → Reader A → Reader (List A)
list1 p = do
  first ← p
  others ← many (at_level 12) (eat k.Comma >> p)
  pure (first ∷ others)

unfoldable pub name : Reader (List ℕ)
name = take_if is_name_kind >>= (λ t. pure t.text)

unfoldable pub variable : Reader (List ℕ)
variable = eat k.Dollar >> name

-- Operators.

unfoldable pub operation : (Kind → Option Binary) → Reader Expr → Reader (Operation Expr)
operation operator operand = do
  op ← take_as operator
  x ← operand
  pure (record { operator = op; operand = x })

unfoldable pub chain : ℕ → (Kind → Option Binary) → Reader Expr → Reader Expr
chain level operator operand = do
  first ← operand
  others ← many (at_level level) (operation operator operand)
  pure (chain_of first others)

unfoldable pub at_most_once : ℕ → (Kind → Option Binary) → Reader Expr → Reader Expr
at_most_once level operator operand =
    operand >>= (λ first. choose (at_level level)
    (operation operator operand >>= (λ other. pure (e.Chain first (other ∷ []))))
    (pure first))

-- Paths.

-- a kind test's name and "("
unfoldable pub sees_kind_test : List Token → Bool
sees_kind_test ts = is_some (kind_test_of (kind_at 0 ts)) && sees 1 k.OpenParen ts

unfoldable pub kind_test : Reader NodeTest
kind_test = do
  kind ← take_as kind_test_of
  eat k.OpenParen
  eat k.CloseParen
  pure (test.Kind kind)

unfoldable pub node_test : Reader NodeTest
node_test =
    choose (sees 0 k.Star) (eat k.Star >> pure test.AnyName)
    (choose sees_kind_test kind_test
    (name >>= (λ found. pure (test.Name found))))

unfoldable pub named_axis : Reader AxisStep
named_axis = do
  axis ← take_as axis_of
  eat k.ColonColon
  test ← node_test
  pure (record { axis = axis; test = test; is_bare = false })

unfoldable pub attribute_step : Reader AxisStep
attribute_step = do
  eat k.AtSign
  test ← node_test
  pure (record { axis = axis.Attribute; test = test; is_bare = false })

unfoldable pub axis_step : Reader AxisStep
axis_step =
    choose (sees 0 k.AtSign) attribute_step
    (choose (sees 0 k.DotDot) (eat k.DotDot >> pure (record { axis = axis.Parent; test = test.Kind AnyNode; is_bare = false }))
    (choose (sees 1 k.ColonColon) named_axis
    (node_test >>= (λ test. pure (record { axis = axis.Child; test = test; is_bare = true })))))

-- what begins a primary expression by itself
abbrev pub marks_primary : Kind → Bool
marks_primary k.Number = true
marks_primary k.String = true
marks_primary k.Dollar = true
marks_primary k.OpenParen = true
marks_primary k.Dot = true
marks_primary _ = false

-- the word of a constructor
abbrev pub is_constructor : Kind → Bool
is_constructor k.Document = true
is_constructor k.Text = true
is_constructor k.Comment = true
is_constructor k.Element = true
is_constructor k.Attribute = true
is_constructor k.ProcessingInstruction = true
is_constructor _ = false

-- the word of a constructor that takes a name
abbrev pub is_named_constructor : Kind → Bool
is_named_constructor k.Element = true
is_named_constructor k.Attribute = true
is_named_constructor k.ProcessingInstruction = true
is_named_constructor _ = false

-- whether names before tokens of these kinds begin a primary expression
abbrev pub names_primary : (first : Kind) → (second : Kind) → (third : Kind) → Bool
names_primary first k.OpenParen third = is_function first
names_primary first k.OpenBrace third = is_constructor first
names_primary first second third = is_named_constructor first && (is_name_kind second && same_kind third k.OpenBrace)

-- whether three tokens of these kinds begin a primary expression
abbrev pub begins_primary : (first : Kind) → (second : Kind) → (third : Kind) → Bool
begins_primary first second third = marks_primary first || names_primary first second third

unfoldable pub sees_primary : List Token → Bool
sees_primary ts = begins_primary (kind_at 0 ts) (kind_at 1 ts) (kind_at 2 ts)

-- whether it is "//"
unfoldable pub slash : Reader Bool
slash = choose (sees 0 k.Slash) (eat k.Slash >> pure false) (eat k.SlashSlash >> pure true)

unfoldable pub sees_sign : List Token → Bool
sees_sign ts = is_some (sign_of (kind_at 0 ts))

-- The forms of an expression that no comma parts.
pub data Form : Type 0 where
  FlworForm : Form
  QuantifiedForm : Form
  IfForm : Form
  InsertForm : Form
  DeleteForm : Form
  ReplaceForm : Form
  RenameForm : Form
  CopyForm : Form
  OrForm : Form

-- the form that a token of this kind begins before "$"
abbrev pub form_before_variable : Kind → Form
form_before_variable k.For = FlworForm
form_before_variable k.Let = FlworForm
form_before_variable k.Some = QuantifiedForm
form_before_variable k.Every = QuantifiedForm
form_before_variable k.Copy = CopyForm
form_before_variable _ = OrForm

-- before "("
abbrev pub form_before_paren : Kind → Form
form_before_paren k.If = IfForm
form_before_paren _ = OrForm

-- before `node`
abbrev pub form_before_node : Kind → Form
form_before_node k.Insert = InsertForm
form_before_node k.Delete = DeleteForm
form_before_node k.Replace = ReplaceForm
form_before_node k.Rename = RenameForm
form_before_node _ = OrForm

-- before `nodes`
abbrev pub form_before_nodes : Kind → Form
form_before_nodes k.Insert = InsertForm
form_before_nodes k.Delete = DeleteForm
form_before_nodes _ = OrForm

-- before `value`
abbrev pub form_before_value : Kind → Form
form_before_value k.Replace = ReplaceForm
form_before_value _ = OrForm

-- the form that two tokens of these kinds begin
abbrev pub form_of : (first : Kind) → (second : Kind) → Form
form_of first k.Dollar = form_before_variable first
form_of first k.OpenParen = form_before_paren first
form_of first k.Node = form_before_node first
form_of first k.Nodes = form_before_nodes first
form_of first k.Value = form_before_value first
form_of _ _ = OrForm

-- Rules over that of `single`, the expressions that no comma parts.
module _ (single : Reader Expr) where
  unfoldable pub exprs : Reader Expr
  exprs = list1 single >>= (λ xs. pure (of_list xs))

  -- content before this closing token
  unfoldable pub content : Kind → Reader Expr
  content closing = choose (sees 0 closing) (pure (e.Sequence [])) exprs

  unfoldable pub parens : Reader Expr
  parens = do
    eat k.OpenParen
    x ← content k.CloseParen
    eat k.CloseParen
    pure x

  unfoldable pub braces : Reader Expr
  braces = do
    eat k.OpenBrace
    x ← exprs
    eat k.CloseBrace
    pure x

  unfoldable pub body : Reader Expr
  body = do
    eat k.OpenBrace
    x ← content k.CloseBrace
    eat k.CloseBrace
    pure x

  unfoldable pub arguments : Reader (List Expr)
  arguments = choose (sees 0 k.CloseParen) (pure []) (list1 single)

  unfoldable pub call : Reader Expr
  call = do
    name ← take_if is_function
    eat k.OpenParen
    xs ← arguments
    eat k.CloseParen
    pure (e.Call (function_of name.text (length xs)) xs)

  unfoldable pub name_or_braces : Reader (NameOf Expr)
  name_or_braces = choose (sees 0 k.OpenBrace) (braces >>= (λ x. pure (Computed x))) (name >>= (λ found. pure (Written found)))

  unfoldable pub named : Kind → (NameOf Expr → Expr → Expr) → Reader Expr
  named kind make = do
    eat kind
    found ← name_or_braces
    x ← body
    pure (make found x)

  abbrev pub make_by : Kind → Reader Expr
  make_by k.Document = (eat k.Document >> braces) >>= (λ x. pure (e.Document x))
  make_by k.Text = (eat k.Text >> braces) >>= (λ x. pure (e.Text x))
  make_by k.Comment = (eat k.Comment >> braces) >>= (λ x. pure (e.Comment x))
  make_by k.Element = named k.Element e.Element
  make_by k.Attribute = named k.Attribute e.Attribute
  make_by k.ProcessingInstruction = named k.ProcessingInstruction e.Instruction
  make_by _ = refuse

  unfoldable pub make : Reader Expr
  make = λ ts. make_by (kind_at 0 ts) ts

  abbrev pub primary_by : Kind → Reader Expr
  primary_by k.Number = eat k.Number >>= (λ t. pure (e.Integer t.number))
  primary_by k.String = eat k.String >>= (λ t. pure (e.String t.text))
  primary_by k.Dollar = variable >>= (λ found. pure (e.Variable found))
  primary_by k.OpenParen = parens
  primary_by k.Dot = eat k.Dot >> pure e.Context
  primary_by _ = choose (sees 1 k.OpenParen) call make

  unfoldable pub primary : Reader Expr
  primary = λ ts. primary_by (kind_at 0 ts) ts

  unfoldable pub predicate : Reader Expr
  predicate = do
    eat k.OpenBracket
    x ← exprs
    eat k.CloseBracket
    pure x

  unfoldable pub predicates : Reader (List Expr)
  predicates = many (at_level 1) predicate

  unfoldable pub step : Reader StepOf
  step =
      choose sees_primary
      (do
        x ← primary
        xs ← predicates
        pure (OfPrimary x xs))
      (do
        s ← axis_step
        xs ← predicates
        pure (OfAxis s xs))

  unfoldable pub segment : Reader (List Expr)
  segment = do
    is_deep ← slash
    s ← step
    pure (steps_of is_deep s)

  unfoldable pub path : Reader Expr
  path = do
    first ← step
    others ← many (at_level 2) segment
    pure (path_of (step_of first) (flat_map (λ steps. steps) others))

  unfoldable pub unary : Reader Expr
  unary = do
    signs ← many sees_sign (take_as sign_of)
    x ← path
    pure (signed_of signs x)

  unfoldable pub inter : Reader Expr
  inter = chain 3 intersect_operator unary

  unfoldable pub union : Reader Expr
  union = chain 4 union_operator inter

  unfoldable pub multiplication : Reader Expr
  multiplication = chain 5 multiply_operator union

  unfoldable pub addition : Reader Expr
  addition = chain 6 add_operator multiplication

  unfoldable pub range : Reader Expr
  range = at_most_once 7 range_operator addition

  unfoldable pub comparison : Reader Expr
  comparison = at_most_once 8 comparison_operator range

  unfoldable pub conjunction : Reader Expr
  conjunction = chain 9 and_operator comparison

  unfoldable pub disjunction : Reader Expr
  disjunction = chain 10 or_operator conjunction

  unfoldable pub conditional : Reader Expr
  conditional = do
    eat k.If
    eat k.OpenParen
    condition ← exprs
    eat k.CloseParen
    eat k.Then
    x ← single
    eat k.Else
    y ← single
    pure (e.If condition x y)

  unfoldable pub in_binding : Reader (Binding Expr)
  in_binding = do
    found ← variable
    eat k.In
    x ← single
    pure (record { variable = found; source = x })

  unfoldable pub set_binding : Reader (Binding Expr)
  set_binding = do
    found ← variable
    eat k.Assign
    x ← single
    pure (record { variable = found; source = x })

  unfoldable pub at_binding : Reader (Clause Expr)
  at_binding = do
    found ← variable
    eat k.At
    at ← variable
    eat k.In
    x ← single
    pure (clause.ForAt (record { variable = found; source = x }) at)

  unfoldable pub for_binding : Reader (Clause Expr)
  for_binding = choose (sees 2 k.At) at_binding (in_binding >>= (λ b. pure (clause.For b)))

  unfoldable pub clauses : Reader (List (Clause Expr))
  clauses =
      choose (sees 0 k.For) (eat k.For >> list1 for_binding)
      ((eat k.Let >> list1 set_binding) >>= (λ sets. pure (map clause.Let sets)))

  unfoldable pub condition : Reader (Option Expr)
  condition = choose (at_level 14) (eat k.Where >> single >>= (λ x. pure (Some x))) (pure None)

  unfoldable pub direction : Reader Bool
  direction =
      choose (sees 0 k.Ascending) (eat k.Ascending >> pure false)
      (choose (sees 0 k.Descending) (eat k.Descending >> pure true)
      (pure false))

  unfoldable pub key : Reader (SortKey Expr)
  key = do
    x ← single
    descending ← direction
    pure (record { key = x; is_descending = descending })

  unfoldable pub keys : Reader (List (SortKey Expr))
  keys = choose (at_level 15) (eat k.Order >> eat k.By >> list1 key) (pure [])

  unfoldable pub flwor : Reader Expr
  flwor = do
    first ← clauses
    others ← many (at_level 13) clauses
    test ← condition
    sorted ← keys
    eat k.Return
    x ← single
    pure (e.Flwor (first ++ flat_map (λ found. found) others) test sorted x)

  unfoldable pub which : Reader Quantifier
  which = choose (sees 0 k.Some) (eat k.Some >> pure quantifier.Some) (eat k.Every >> pure quantifier.Every)

  unfoldable pub quantified : Reader Expr
  quantified = do
    found ← which
    bindings ← list1 in_binding
    eat k.Satisfies
    x ← single
    pure (e.Quantified found bindings x)

  unfoldable pub node_or_nodes : Reader Token
  node_or_nodes = choose (sees 0 k.Node) (eat k.Node) (eat k.Nodes)

  unfoldable pub place_of : Reader Place
  place_of =
      choose (sees 0 k.Into) (eat k.Into >> pure place.Into)
      (choose (sees 0 k.After) (eat k.After >> pure place.After)
      (choose (sees 0 k.Before) (eat k.Before >> pure place.Before)
      (choose (sees 1 k.First) (eat k.As >> eat k.First >> eat k.Into >> pure place.FirstInto)
      (eat k.As >> eat k.Last >> eat k.Into >> pure place.LastInto))))

  unfoldable pub insertion : Reader Expr
  insertion = do
    eat k.Insert
    node_or_nodes
    source ← single
    where_to ← place_of
    target ← single
    pure (e.Insert source where_to target)

  unfoldable pub deletion : Reader Expr
  deletion = do
    eat k.Delete
    node_or_nodes
    target ← single
    pure (e.Delete target)

  unfoldable pub replace_node : Reader Expr
  replace_node = do
    eat k.Replace
    eat k.Node
    target ← single
    eat k.With
    source ← single
    pure (e.ReplaceNode target source)

  unfoldable pub replace_value : Reader Expr
  replace_value = do
    eat k.Replace
    eat k.Value
    eat k.Of
    eat k.Node
    target ← single
    eat k.With
    source ← single
    pure (e.ReplaceValue target source)

  unfoldable pub replacement : Reader Expr
  replacement = choose (sees 1 k.Node) replace_node replace_value

  unfoldable pub renaming : Reader Expr
  renaming = do
    eat k.Rename
    eat k.Node
    target ← single
    eat k.As
    found ← single
    pure (e.Rename target found)

  unfoldable pub copying : Reader Expr
  copying = do
    eat k.Copy
    bindings ← list1 set_binding
    eat k.Modify
    changes ← single
    eat k.Return
    result ← single
    pure (e.Copy bindings changes result)

  -- refused below level 2
  unfoldable pub copy : (level : ℕ) → Reader Expr
  copy level = λ ts. if nat_le 2 level then copying ts else None

  abbrev pub read_form : (level : ℕ) → Form → Reader Expr
  read_form level FlworForm = flwor
  read_form level QuantifiedForm = quantified
  read_form level IfForm = conditional
  read_form level InsertForm = insertion
  read_form level DeleteForm = deletion
  read_form level ReplaceForm = replacement
  read_form level RenameForm = renaming
  read_form level CopyForm = copy level
  read_form level OrForm = disjunction

  unfoldable pub single_of : (level : ℕ) → Reader Expr
  single_of level = λ ts. read_form level (form_of (kind_at 0 ts) (kind_at 1 ts)) ts

-- nested at most so deep
unfoldable pub single : (level : ℕ) → (depth : ℕ) → Reader Expr
single level zero = refuse
single level (suc n) = single_of (single level n) level

-- what was read, if no token is left
abbrev pub whole : Option (Expr × List Token) → Option Expr
whole None = None
whole (Some p) = elim p.1 [ [] ↦ Some p.0 | t ∷ ts ↦ None ]

-- the expression that the tokens are spelt as
unfoldable pub query : (level : ℕ) → List Token → Option Expr
query level ts = whole (exprs (single level (suc (length ts))) ts)
