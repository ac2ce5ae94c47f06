-- Functions of an item, as expressions in which something stands for the item.
use Rattle.std.specs.Prelude.{ℕ, pos, List, [], ◌∷◌, ◌++◌, Some, Result, Ok, Err}
use Rattle.values.specs.Items.{IsThere}
use Rattle.values.specs.Work.{text_work}
use Rattle.values.specs.declared.atom.Atom.TheVariants as atom
use Rattle.values.specs.declared.atom.Item.{Item}
use Rattle.values.specs.declared.atom.Item.TheVariants as item
use Rattle.values.specs.declared.fault.ValueFault.{ValueFault}
use Rattle.values.specs.declared.operators.Operator.{Operator}
use Rattle.query_grammar.specs.declared.ast.Binary.TheVariants as binary
use Rattle.query_grammar.specs.declared.ast.Expr.{Expr}
use Rattle.query_grammar.specs.declared.ast.Expr.TheVariants as e
use Rattle.query_grammar.specs.declared.functions.Function.{Function}
use Rattle.query_grammar.specs.declared.functions.Function.TheVariants as function
use Rattle.query_meaning.specs.Running.{M, Run, ◌>>=◌, atom as atom_at, come_to, pure, trees_of, work}
use Rattle.query_meaning.specs.Strings.{limited, text_in}
use Rattle.query_strings.specs.ItemTexts.{item_length, printed_item}
use Rattle.query_strings.specs.Tests.{holds_by}
use Rattle.query_strings.specs.declared.tests.TextTest.{TextTest}
use Rattle.query_strings.specs.declared.tests.TextTest.TheVariants as test
use Rattle.item_expressions.specs.Compared.{IsLiteral, literal_expression, literal_in, sides}
use Rattle.item_expressions.specs.Numbers.{number_of}
use Rattle.item_expressions.specs.Subjects.{OfSubject, subject_expression, subject_work}
use Rattle.item_expressions.specs.declared.subject.Subject.{Subject}
use Rattle.item_expressions.specs.declared.item_function.Made.{Made}
use Rattle.item_expressions.specs.declared.item_function.Made.TheVariants as made
use Rattle.item_expressions.specs.declared.item_function.ItemFunction.TheInside.{Inside}

-- the function that asks it
abbrev pub test_function : TextTest → Function
test_function test.Contains = function.Contains
test_function test.StartsWith = function.StartsWith
test_function test.EndsWith = function.EndsWith

abbrev pub function_expression : Subject → Made → Expr
function_expression s made.Itself = subject_expression s
function_expression s made.String = e.Call (Some function.String) (subject_expression s ∷ [])
function_expression s made.Length = e.Call (Some function.StringLength) (subject_expression s ∷ [])
function_expression s (made.Literal y) = literal_expression (literal_in y)
function_expression s (made.Concat y) = e.Call (Some function.Concat) (subject_expression s ∷ literal_expression (literal_in y) ∷ [])
function_expression s (made.Tested t y) = e.Call (Some (test_function t)) (subject_expression s ∷ literal_expression (literal_in y) ∷ [])
function_expression s (made.Calculated op y) = e.Chain (subject_expression s) (record { operator = binary.Arithmetic op; operand = literal_expression (literal_in y) } ∷ [])

-- a literal is one
abbrev pub IsMade : Made → Type 0
IsMade (made.Literal y) = IsLiteral y
IsMade (made.Concat y) = IsLiteral y
IsMade (made.Tested t y) = IsLiteral y
IsMade (made.Calculated op y) = IsLiteral y
IsMade _ = Unit {0}

abbrev pub function_of : Inside → OfSubject
function_of f = record { subject = f.subject; expression = function_expression f.subject f.made }

-- the item alone, or the fault
abbrev pub given_one : Result Item ValueFault → Result (List Item) ValueFault
given_one (Ok x) = Ok (x ∷ [])
given_one (Err f) = Err f

-- an item that stands in the trees
abbrev pub IsIn : Item → Run → Type 0
IsIn x run = IsThere (trees_of run) x

-- the typed value as a string that is made, and the work of a value of one item
abbrev pub printed_string : Item → M Item
printed_string x = do
  text ← printed_item x
  _ ← work (text_work text)
  _ ← work 2
  pure (item.Atomic (atom.String text))

-- the characters of its text
abbrev pub length_at : Item → M Item
length_at x = do
  count ← item_length x
  _ ← work 2
  pure (item.Atomic (atom.Integer (pos count)))

-- a text with another one after it, as a string that is made, and the work of a value of one item
abbrev pub joined : (first second : List ℕ) → M Item
joined first second = do
  text ← come_to (limited (first ++ second))
  _ ← work (text_work text)
  _ ← work 2
  pure (item.Atomic (atom.String text))

-- the typed value as a string, with that of another item after it
abbrev pub concatenated_with : (other x : Item) → M Item
concatenated_with y x = do
  first ← printed_item x
  second ← printed_item y
  joined first second

-- what is asked of the texts of the typed values, and the work of a value of one item
abbrev pub tested_with : TextTest → (other x : Item) → M Item
tested_with t y x = do
  a ← atom_at x
  b ← atom_at y
  text ← come_to (text_in a)
  part ← come_to (text_in b)
  _ ← work 2
  pure (item.Atomic (atom.Boolean (holds_by t text part)))

-- the integer that an operator makes of the typed values, and the work of two values of one item: the operator's and the expression's
abbrev pub calculated_with : Operator → (other x : Item) → M Item
calculated_with op y x = do
  a ← atom_at x
  b ← atom_at y
  z ← come_to (number_of op a b)
  _ ← work 2
  _ ← work 2
  pure (item.Atomic (atom.Integer z))

-- what is made of the item
abbrev pub made_of : Made → Item → M Item
made_of made.Itself x = pure x
made_of made.String x = printed_string x
made_of made.Length x = length_at x
made_of (made.Literal y) x = pure y
made_of (made.Concat y) x = concatenated_with y x
made_of (made.Tested t y) x = tested_with t y x
made_of (made.Calculated op y) x = calculated_with op y x

-- to look for what stands for the item is work, and a literal takes that of a value of one item
abbrev pub made_work : Subject → Made → M (Unit {0})
made_work s (made.Literal y) = work 2
made_work s (made.Concat y) = sides s
made_work s (made.Tested t y) = sides s
made_work s (made.Calculated op y) = sides s
made_work s _ = subject_work s

abbrev pub applied : Subject → Made → Item → M Item
applied s m x = made_work s m >>= (λ _. made_of m x)
