-- Literals, variables, the comma, conditional and quantified expressions, and FLWOR (XQuery 1.0, sections 3.1, 3.3.1, 3.8, 3.10, 3.11), by
-- what their parts mean.
use Rattle.std.specs.Prelude.{ℕ, ◌+◌, pos, Bool, true, false, not, ◌&&◌, nat_le, if◌then◌else◌, List, [], ◌∷◌, ◌++◌, length, Option, Some, None, Result, Ok, Err}
use Rattle.std.specs.List.{list_all}
use Rattle.std.specs.declared.cmp.Ordering.{Ordering}
use Rattle.std.specs.declared.cmp.Ordering.TheVariants.{Less, Equal, Greater}
use Rattle.std.specs.Ordering.{is_lt, ordering_reverse, ordering_then}
use Rattle.fault_codes.specs.declared.code.Code.{Code}
use Rattle.fault_codes.specs.declared.code.Code.TheVariants.{XPST0008, XPDY0002, XPTY0004, PXQ0002}
use Rattle.values.specs.declared.atom.Atom.{Atom}
use Rattle.values.specs.declared.atom.Atom.TheVariants as atom
use Rattle.values.specs.declared.atom.Item.{Item}
use Rattle.values.specs.declared.atom.Item.TheVariants as item
use Rattle.values.specs.Arithmetic.{in_range}
use Rattle.values.specs.Atoms.{or_fault, truth}
use Rattle.values.specs.Comparisons.{as_string, same_type_cmp}
use Rattle.query_grammar.specs.declared.ast.Binding.{Binding}
use Rattle.query_grammar.specs.declared.ast.Clause.{Clause}
use Rattle.query_grammar.specs.declared.ast.Clause.TheVariants as clause
use Rattle.query_grammar.specs.declared.ast.Quantifier.{Quantifier}
use Rattle.query_grammar.specs.declared.ast.Quantifier.TheVariants as quantifier
use Rattle.query_grammar.specs.declared.ast.SortKey.{SortKey}
use Rattle.query_meaning.specs.Running.{M, pure, ◌>>=◌, come_to, turn, work, joined, each, atoms, most_items}
use Rattle.query_meaning.specs.Environment.{Environment, Focus, looked_at, value_in, with_variable}

-- what an expression means
abbrev pub Meaning : Type 0
Meaning = Environment → M (List Item)

-- one atomic value
abbrev pub one : Atom → List Item
one a = item.Atomic a ∷ []

-- a literal (section 3.1.1); the grammar keeps numbers in range
abbrev pub number : ℕ → Meaning
number n = λ env. do
  z ← come_to (in_range (pos n))
  pure (one (atom.Integer z))

abbrev pub string : List ℕ → Meaning
string text = λ env. pure (one (atom.String text))

-- `$x` (section 3.1.2); to look for it is work
abbrev pub variable : List ℕ → Meaning
variable x = λ env. do
  _ ← work (looked_at x env.variables)
  come_to (or_fault XPST0008 (value_in x env.variables))

-- `.` (section 3.1.4)
abbrev pub focus_of : Environment → Result Focus Code
focus_of env = or_fault XPDY0002 env.focus

abbrev pub context_item : Meaning
context_item = λ env. do
  focus ← come_to (focus_of env)
  pure (focus.item ∷ [])

-- `a, b, ..` (section 3.3.1)
abbrev pub and_items : Environment → List Item → Meaning → M (List Item)
and_items env given m = m env >>= joined given

abbrev pub sequence : List Meaning → Meaning
sequence ms = λ env. each (λ _. and_items env) 0 ms []

-- `if (a) then b else c` (section 3.10)
abbrev pub branch : Bool → Meaning → Meaning → Meaning
branch true x y = x
branch false x y = y

abbrev pub conditional : Meaning → Meaning → Meaning → Meaning
conditional c x y = λ env. do
  items ← c env
  b ← come_to (truth items)
  branch b x y env

-- `some` and `every` (section 3.11): the first item that decides ends it
abbrev pub decides : Quantifier → Bool → Bool
decides quantifier.Some b = b
decides quantifier.Every b = not b

-- what it comes to if none decides
abbrev pub undecided : Quantifier → Bool
undecided quantifier.Some = false
undecided quantifier.Every = true

abbrev pub go_on : Bool → Bool → M Bool → M Bool
go_on true b m = pure b
go_on false b m = m

abbrev pub until_decided : Quantifier → (Item → M Bool) → List Item → M Bool
until_decided q f [] = pure (undecided q)
until_decided q f (x ∷ xs) = f x >>= (λ b. go_on (decides q b) b (until_decided q f xs))

abbrev pub satisfied : Quantifier → List (Binding Meaning) → Meaning → Environment → M Bool
satisfied q [] m env = m env >>= (λ items. come_to (truth items))
satisfied q (b ∷ bs) m env = b.source env >>= until_decided q (λ x. turn (satisfied q bs m (with_variable b.variable (x ∷ []) env)))

abbrev pub quantified : Quantifier → List (Binding Meaning) → Meaning → Meaning
quantified q bs m = λ env. do
  b ← satisfied q bs m env
  pure (one (atom.Boolean b))

-- A FLWOR expression is a list of tuples (section 3.8), each with the variables that the clauses bind; `k` takes what came before to what
-- comes with one tuple more.
abbrev pub tuples : {S : Type 0} → List (Clause Meaning) → (Environment → S → M S) → Environment → S → M S
tuples [] k env s = k env s
tuples (clause.For b ∷ cs) k env s =
    b.source env >>= (λ items. each (λ _ s x. turn (tuples cs k (with_variable b.variable (x ∷ []) env) s)) 0 items s)
tuples (clause.ForAt b at ∷ cs) k env s =
    b.source env >>= (λ items. each (λ i s x. turn (tuples cs k (with_variable at (one (atom.Integer (pos (i + 1)))) (with_variable b.variable (x ∷ []) env)) s)) 0 items s)
tuples (clause.Let b ∷ cs) k env s = b.source env >>= (λ items. tuples cs k (with_variable b.variable items env) s)

-- `where`: the effective boolean value, or true where there is no test
abbrev pub tested : Option Meaning → Environment → M Bool
tested None env = pure true
tested (Some m) env = m env >>= (λ items. come_to (truth items))

abbrev pub if_so : {S : Type 0} → Bool → M S → S → M S
if_so true m given = m
if_so false m given = pure given

-- Without `order by` the result is made tuple by tuple (our own choice).
abbrev pub returned : Option Meaning → Meaning → Environment → List Item → M (List Item)
returned test m env given = tested test env >>= (λ b. if_so b (m env >>= joined given) given)

-- `order by` (section 3.8.3): all tuples with their keys, then the sort, then `return` in sorted order
pub record Tuple : Type 0 where
  pub environment : Environment
  pub keys : List (Option Atom)

-- a key: none, or one atomic value, untyped as a string
abbrev pub key_of : List Atom → Result (Option Atom) Code
key_of [] = Ok None
key_of (a ∷ []) = Ok (Some (as_string a))
key_of (a ∷ b ∷ rest) = Err XPTY0004

abbrev pub key_in : Environment → List (Option Atom) → SortKey Meaning → M (List (Option Atom))
key_in env given key = do
  items ← key.key env
  values ← atoms items
  k ← come_to (key_of values)
  pure (given ++ k ∷ [])

abbrev pub keys_in : List (SortKey Meaning) → Environment → M (List (Option Atom))
keys_in keys env = each (λ _. key_in env) 0 keys []

-- one tuple more
abbrev pub and_tuple : Environment → List Tuple → List (Option Atom) → Result (List Tuple) Code
and_tuple env given keys = if nat_le most_items (length given) then Err PXQ0002 else Ok (given ++ record { environment = env; keys = keys } ∷ [])

abbrev pub kept_tuple : Option Meaning → List (SortKey Meaning) → Environment → List Tuple → M (List Tuple)
kept_tuple test keys env given = tested test env >>= (λ b. if_so b (keys_in keys env >>= (λ ks. come_to (and_tuple env given ks))) given)

-- the order of two keys, if they have one; the empty key is the least (our own choice)
abbrev pub key_cmp : Option Atom → Option Atom → Option Ordering
key_cmp None None = Some Equal
key_cmp None (Some b) = Some Less
key_cmp (Some a) None = Some Greater
key_cmp (Some a) (Some b) = same_type_cmp a b

-- whether each of the one's keys can be compared with the other's
abbrev pub are_comparable : List (Option Atom) → List (Option Atom) → Bool
are_comparable (a ∷ more) (b ∷ bs) = has_order (key_cmp a b) && are_comparable more bs
  where
    has_order : Option Ordering → Bool
    has_order None = false
    has_order (Some o) = true
are_comparable _ _ = true

abbrev pub all_comparable : List Tuple → Bool
all_comparable [] = true
all_comparable (t ∷ ts) = list_all (λ (u : Tuple). are_comparable t.keys u.keys) ts && all_comparable ts

-- by the first key that differs, backwards where it is descending
abbrev pub directed : SortKey Meaning → Option Ordering → Ordering
directed key None = Equal
directed key (Some o) = if key.is_descending then ordering_reverse o else o

abbrev pub keys_cmp : List (SortKey Meaning) → List (Option Atom) → List (Option Atom) → Ordering
keys_cmp (key ∷ keys) (a ∷ more) (b ∷ bs) = ordering_then (directed key (key_cmp a b)) (keys_cmp keys more bs)
keys_cmp _ _ _ = Equal

-- the tuple among sorted ones, before those that it is not greater than
abbrev pub sorted_in : List (SortKey Meaning) → Tuple → List Tuple → List Tuple
sorted_in keys t [] = t ∷ []
sorted_in keys t (u ∷ us) = if is_lt (keys_cmp keys u.keys t.keys) then u ∷ sorted_in keys t us else t ∷ u ∷ us

-- equal tuples stay in their order
abbrev pub sorted : List (SortKey Meaning) → List Tuple → List Tuple
sorted keys [] = []
sorted keys (t ∷ ts) = sorted_in keys t (sorted keys ts)

abbrev pub in_sorted_order : List (SortKey Meaning) → List Tuple → Result (List Tuple) Code
in_sorted_order keys ts = if all_comparable ts then Ok (sorted keys ts) else Err XPTY0004

abbrev pub ordered : List (Clause Meaning) → Option Meaning → List (SortKey Meaning) → Meaning → Meaning
ordered cs test keys m = λ env. do
  found ← tuples cs (kept_tuple test keys) env []
  ts ← come_to (in_sorted_order keys found)
  each (λ _ given (t : Tuple). m t.environment >>= joined given) 0 ts []

abbrev pub flwor : List (Clause Meaning) → Option Meaning → List (SortKey Meaning) → Meaning → Meaning
flwor cs test [] m = λ env. tuples cs (returned test m) env []
flwor cs test (key ∷ keys) m = ordered cs test (key ∷ keys) m
