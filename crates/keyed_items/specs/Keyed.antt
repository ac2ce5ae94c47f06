-- Tuples with their keys, and tuples of items whose keys are functions of the item.
use Rattle.std.specs.Prelude.{◌≡◌, ℕ, List, [], ◌∷◌, map, Option, option_map, false}
use Rattle.values.specs.declared.atom.Atom.{Atom}
use Rattle.values.specs.declared.atom.Item.{Item}
use Rattle.query_grammar.specs.declared.ast.Expr.{Expr}
use Rattle.query_grammar.specs.declared.ast.SortKey.{SortKey}
use Rattle.query_meaning.specs.Environment.{Environment, with_variable}
use Rattle.query_meaning.specs.Meaning.{mean}
use Rattle.query_meaning.specs.Running.{M, ◌>>=◌, come_to, each, turn}
use Rattle.query_meaning.specs.Sequences.{Meaning, Tuple, and_tuple, key_in, kept_tuple, keys_in}
use Rattle.sorted_tuples.specs.Keys.{sort_key_of}
use Rattle.item_expressions.specs.Subjects.{OfSubject}

-- one key more
abbrev pub and_key : Environment → List (Option Atom) → Meaning → M (List (Option Atom))
and_key env given m = key_in env given (record { key = m; is_descending = false })

-- one tuple more, with its keys
abbrev pub and_tuple_of : List (SortKey Meaning) → Environment → List Tuple → M (List Tuple)
and_tuple_of keys env given = keys_in keys env >>= (λ ks. come_to (and_tuple env given ks))

-- the keys are these functions
abbrev pub AreKeys : List (SortKey Expr) → List OfSubject → Type 0
AreKeys keys fs = map (λ (k : SortKey Expr). k.key) keys ≡ map (λ (f : OfSubject). f.expression) fs

abbrev pub keys_of : Environment → List OfSubject → M (List (Option Atom))
keys_of env fs = each (λ _ given (f : OfSubject). and_key env given (mean f.expression)) 0 fs []

-- one item, which the variable is bound to last
abbrev pub kept_of : Option Expr → List (SortKey Expr) → (variable : List ℕ) → Environment → List Tuple → Item → M (List Tuple)
kept_of test keys v env given item = turn (kept_tuple (option_map mean test) (map (sort_key_of mean) keys) (with_variable v (item ∷ []) env) given)

abbrev pub kept_of_each : Option Expr → List (SortKey Expr) → (variable : List ℕ) → Environment → List Item → List Tuple → M (List Tuple)
kept_of_each test keys v env items given = each (λ _. kept_of test keys v env) 0 items given
