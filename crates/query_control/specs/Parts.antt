-- Parts of expressions, by what they mean or with the expressions in them.
use Rattle.std.specs.Prelude.{Bool, ℕ, List, ◌∷◌, [], Option}
use Rattle.values.specs.declared.atom.Item.{Item}
use Rattle.query_grammar.specs.declared.ast.Binding.{Binding}
use Rattle.query_grammar.specs.declared.ast.Clause.{Clause}
use Rattle.query_grammar.specs.declared.ast.Quantifier.{Quantifier}
use Rattle.query_grammar.specs.declared.ast.SortKey.{SortKey}
use Rattle.query_meaning.specs.Running.{M, ◌>>=◌, come_to, joined, turn, each}
use Rattle.query_meaning.specs.Environment.{Environment, with_variable}
use Rattle.query_meaning.specs.Sequences.{Meaning, Tuple, satisfied, tuples, kept_tuple, in_sorted_order}

abbrev pub key_in : {A : Type 0} → SortKey A → A
key_in k = k.key

-- one item of a binding of a quantified expression, before the other bindings
abbrev pub satisfied_by : Quantifier → (variable : List ℕ) → List (Binding Meaning) → Meaning → Environment → Item → M Bool
satisfied_by q x bs m env item = turn (satisfied q bs m (with_variable x (item ∷ []) env))

-- the tuples of a FLWOR expression in their order
abbrev pub in_order : List (Clause Meaning) → Option Meaning → List (SortKey Meaning) → Environment → M (List Tuple)
in_order cs test keys env = tuples cs (kept_tuple test keys) env [] >>= (λ found. come_to (in_sorted_order keys found))

-- `return` at them
abbrev pub returned_at : Meaning → List Item → Tuple → M (List Item)
returned_at m given t = m t.environment >>= joined given

abbrev pub returned_in_order : Meaning → List Tuple → M (List Item)
returned_in_order m ts = each (λ _. returned_at m) 0 ts []
