-- The functions (XQuery 1.0 and XPath 2.0 Functions and Operators). All arguments are evaluated, then atomized from the left,
-- then judged from the left (our own choice).
use Rattle.std.specs.Prelude.{ℕ, ℤ, pos, ◌+ℤ◌, Bool, true, false, not, ◌==◌, if◌then◌else◌, List, [], ◌∷◌, ◌++◌, length, map, reverse, chars, Option, Some, None, Result, Ok, Err}
use Rattle.std.specs.List.{concat, list_any, starts_with, ends_with}
use Rattle.std.specs.Ordering.{is_eq}
use Rattle.std.specs.declared.cmp.Ordering.{Ordering}
use Rattle.std.specs.Str.{bytes_eq}
use Rattle.data_model.specs.Tidy.{holds_text}
use Rattle.data_model.specs.Trees.{Place, find}
use Rattle.data_model.specs.Walks.{root_of}
use Rattle.fault_codes.specs.declared.code.Code.{Code}
use Rattle.fault_codes.specs.declared.code.Code.TheVariants.{XPST0017, XPTY0004, FODC0002, FORG0001, FORG0006}
use Rattle.values.specs.declared.atom.Atom.{Atom}
use Rattle.values.specs.declared.atom.Atom.TheVariants as atom
use Rattle.values.specs.declared.atom.Item.{Item}
use Rattle.values.specs.declared.atom.Item.TheVariants as item
use Rattle.values.specs.Arithmetic.{in_range}
use Rattle.values.specs.Atoms.{or_fault, truth}
use Rattle.values.specs.Comparisons.{as_string, same_type_cmp}
use Rattle.values.specs.Readings.{integer_of}
use Rattle.values.specs.Work.{text_work}
use Rattle.query_grammar.specs.declared.functions.Function.{Function}
use Rattle.query_grammar.specs.declared.functions.Function.TheVariants as function
use Rattle.query_meaning.specs.Running.{M, pure, fault, ◌>>=◌, come_to, seen, each, atoms, work}
use Rattle.query_meaning.specs.Environment.{Environment, Focus}
use Rattle.query_meaning.specs.Operators.{nodes}
use Rattle.query_meaning.specs.Sequences.{Meaning, one, focus_of}
use Rattle.query_meaning.specs.Strings.{limited, printed, separated, text_in, one_text}

-- what a function makes of its arguments' values
abbrev pub Application : Type 0
Application = Environment → List (List Item) → M (List Item)

abbrev pub of_none : (Environment → M (List Item)) → Application
of_none f env [] = f env
of_none f env _ = fault XPST0017

abbrev pub of_one : (List Item → M (List Item)) → Application
of_one f env (x ∷ []) = f x
of_one f env _ = fault XPST0017

-- without an argument, of the context item
abbrev pub of_one_or_context : (List Item → M (List Item)) → Application
of_one_or_context f env [] = come_to (focus_of env) >>= (λ (focus : Focus). f (focus.item ∷ []))
of_one_or_context f env (x ∷ []) = f x
of_one_or_context f env _ = fault XPST0017

abbrev pub of_two : (List Atom → List Atom → M (List Item)) → Application
of_two f env (x ∷ y ∷ []) = do
  xs ← atoms x
  ys ← atoms y
  f xs ys
of_two f env _ = fault XPST0017

abbrev pub of_two_or_more : Application → Application
of_two_or_more f env (x ∷ y ∷ more) = f env (x ∷ y ∷ more)
of_two_or_more f env _ = fault XPST0017

-- A string argument: at most one value, a string or untyped; none is the empty string.
abbrev pub string_argument : List Atom → Result (List ℕ) Code
string_argument [] = Ok []
string_argument (a ∷ more) = one_text (a ∷ more)

abbrev pub boolean : Bool → M (List Item)
boolean b = pure (one (atom.Boolean b))

abbrev pub integer : ℤ → M (List Item)
integer z = pure (one (atom.Integer z))

-- a string that is made, which takes its work
abbrev pub string : List ℕ → M (List Item)
string text = do
  _ ← work (text_work text)
  pure (one (atom.String text))

-- `doc` (section 15.5.4): the document of that name
abbrev pub document_in : (name : List ℕ) → List (List ℕ × ℕ) → Option ℕ
document_in name [] = None
document_in name (d ∷ ds) = if bytes_eq name d.0 then Some d.1 else document_in name ds

abbrev pub document : List ℕ → M (List Item)
document name = λ run. (do
  i ← come_to (or_fault FODC0002 (document_in name run.shelf.lent.documents))
  pure (item.Node i ∷ [])) run

abbrev pub doc_of : List Atom → M (List Item)
doc_of [] = pure []
doc_of (a ∷ more) = come_to (one_text (a ∷ more)) >>= document

abbrev pub doc : List Item → M (List Item)
doc x = atoms x >>= doc_of

-- `root` (section 14.8)
abbrev pub root : List Item → M (List Item)
root [] = pure []
root (item.Node i ∷ []) = seen (λ ts. nodes (root_of i ts ∷ []))
root _ = fault XPTY0004

-- `name` (section 14.1): empty for kinds without one
abbrev pub name_at : Option Place → List ℕ
name_at None = []
name_at (Some x) = x.content.name

abbrev pub name : List Item → M (List Item)
name [] = string []
name (item.Node i ∷ []) = seen (λ ts. name_at (find i ts)) >>= string
name _ = fault XPTY0004

-- `string` (section 2.3)
abbrev pub first_printed : List Atom → List ℕ
first_printed [] = []
first_printed (a ∷ more) = printed a

abbrev pub string_of : List Item → M (List Item)
string_of [] = string []
string_of (x ∷ []) = atoms (x ∷ []) >>= (λ values. string (first_printed values))
string_of _ = fault XPTY0004

-- `data` (section 2.4)
abbrev pub items_of : List Atom → List Item
items_of values = map (λ a. item.Atomic a) values

abbrev pub data_of : List Item → M (List Item)
data_of x = atoms x >>= (λ values. pure (items_of values))

-- `count`, `empty`, `exists`, `reverse` (sections 15.4.1, 15.1.4, 15.1.5, 15.1.9)
abbrev pub is_none : List Item → Bool
is_none [] = true
is_none (x ∷ xs) = false

abbrev pub count : List Item → M (List Item)
count x = integer (pos (length x))

abbrev pub empty : List Item → M (List Item)
empty x = boolean (is_none x)

abbrev pub exists : List Item → M (List Item)
exists x = boolean (not (is_none x))

abbrev pub reversed : List Item → M (List Item)
reversed x = pure (reverse x)

-- `boolean`, `not` (sections 15.1.1, 9.3.1)
abbrev pub truth_of : List Item → M (List Item)
truth_of x = come_to (truth x) >>= boolean

abbrev pub untruth_of : List Item → M (List Item)
untruth_of x = come_to (truth x) >>= (λ b. boolean (not b))

-- `position`, `last` (sections 16.1, 16.2)
abbrev pub position : Environment → M (List Item)
position env = come_to (focus_of env) >>= (λ (focus : Focus). integer (pos focus.position))

abbrev pub last : Environment → M (List Item)
last env = come_to (focus_of env) >>= (λ (focus : Focus). integer (pos focus.size))

-- `concat` (section 7.4.1): at most one value each
abbrev pub all_atoms : List (List Item) → M (List (List Atom))
all_atoms xs = each (λ _ given x. atoms x >>= (λ values. pure (given ++ values ∷ []))) 0 xs []

abbrev pub at_most_one : List Atom → Result (List ℕ) Code
at_most_one [] = Ok []
at_most_one (a ∷ []) = Ok (printed a)
at_most_one (a ∷ b ∷ rest) = Err XPTY0004

abbrev pub at_most_one_each : List (List Atom) → M (List (List ℕ))
at_most_one_each xs = each (λ _ given values. come_to (at_most_one values) >>= (λ text. pure (given ++ text ∷ []))) 0 xs []

abbrev pub concatenated : Application
concatenated env xs = do
  values ← all_atoms xs
  texts ← at_most_one_each values
  text ← come_to (limited (concat texts))
  string text

-- `contains`, `starts-with`, `ends-with` (sections 7.5.1 to 7.5.3), by code points: of UTF-8, the bytes say the same
abbrev pub of_texts : (List ℕ → List ℕ → Bool) → List Atom → List Atom → M (List Item)
of_texts holds xs ys = do
  s ← come_to (string_argument xs)
  t ← come_to (string_argument ys)
  boolean (holds s t)

abbrev pub contains : List ℕ → List ℕ → Bool
contains s t = holds_text t s

-- `string-length` (section 7.4.4): characters
abbrev pub string_length : List Item → M (List Item)
string_length x = do
  values ← atoms x
  text ← come_to (string_argument values)
  integer (pos (length (chars text)))

-- `string-join` (section 7.4.2)
abbrev pub all_texts : List Atom → M (List (List ℕ))
all_texts values = each (λ _ given a. come_to (text_in a) >>= (λ text. pure (given ++ text ∷ []))) 0 values []

abbrev pub string_join : List Atom → List Atom → M (List Item)
string_join xs ys = do
  texts ← all_texts xs
  separator ← come_to (one_text ys)
  text ← come_to (limited (separated separator texts))
  string text

-- `sum` (section 15.4.5), from the left; untyped is read as an integer (our own choice)
abbrev pub addend : Atom → Result ℤ Code
addend (atom.Integer z) = Ok z
addend (atom.Untyped text) = or_fault FORG0001 (integer_of text)
addend _ = Err FORG0006

abbrev pub and_addend : ℤ → Atom → M ℤ
and_addend z a = do
  n ← come_to (addend a)
  come_to (in_range (z +ℤ n))

abbrev pub sum : List Item → M (List Item)
sum x = do
  values ← atoms x
  z ← each (λ _. and_addend) 0 values (pos 0)
  integer z

-- `distinct-values` (section 15.1.6): the first of each type and value, untyped as a string
abbrev pub are_equal : Option Ordering → Bool
are_equal None = false
are_equal (Some o) = is_eq o

abbrev pub and_distinct : List Atom → Atom → List Atom
and_distinct given a = if list_any (λ b. are_equal (same_type_cmp a b)) given then given else given ++ a ∷ []

abbrev pub distinct : List Atom → List Atom → List Atom
distinct given [] = given
distinct given (a ∷ more) = distinct (and_distinct given (as_string a)) more

abbrev pub distinct_values : List Item → M (List Item)
distinct_values x = atoms x >>= (λ values. pure (items_of (distinct [] values)))

-- what each function makes of its arguments' values; of another number than it takes it makes a fault
abbrev pub application : Function → Application
application function.Doc = of_one doc
application function.Root = of_one_or_context root
application function.Name = of_one_or_context name
application function.String = of_one_or_context string_of
application function.Data = of_one data_of
application function.Count = of_one count
application function.Empty = of_one empty
application function.Exists = of_one exists
application function.Reverse = of_one reversed
application function.Not = of_one untruth_of
application function.Boolean = of_one truth_of
application function.True = of_none (λ env. boolean true)
application function.False = of_none (λ env. boolean false)
application function.Position = of_none position
application function.Last = of_none last
application function.Concat = of_two_or_more concatenated
application function.Contains = of_two (of_texts contains)
application function.StartsWith = of_two (of_texts (starts_with ◌==◌))
application function.EndsWith = of_two (of_texts (ends_with ◌==◌))
application function.StringLength = of_one string_length
application function.StringJoin = of_two string_join
application function.Sum = of_one sum
application function.DistinctValues = of_one distinct_values

-- where there is no function, it is a fault
abbrev pub applied : Option Function → Application
applied None env values = fault XPST0017
applied (Some f) env values = application f env values

-- the values of the arguments, from the left
abbrev pub arguments : Environment → List Meaning → M (List (List Item))
arguments env ms = each (λ _ given (m : Meaning). m env >>= (λ x. pure (given ++ x ∷ []))) 0 ms []

-- a call (section 3.1.5)
abbrev pub call : Option Function → List Meaning → Meaning
call f? ms = λ env. arguments env ms >>= applied f? env
