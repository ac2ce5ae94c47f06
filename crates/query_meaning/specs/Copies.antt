-- `copy $x := a, .. modify b return c` (XQuery Update Facility 1.0, section 2.4.5): copies are made, changed, and then asked.
use Rattle.std.specs.Prelude.{ℕ, Bool, nat_lt, List, [], ◌∷◌, ◌++◌, map, Option, Some, None, Result, Ok, Err}
use Rattle.std.specs.List.{list_all}
use Rattle.data_model.specs.Changes.{pick, renumbered}
use Rattle.data_model.specs.Trees.{Trees, size, count}
use Rattle.trees.specs.Forest.{ForestTerm}
use Rattle.pending.specs.Compatible.{conflict}
use Rattle.pending.specs.Primitives.{PrimitiveTerm}
use Rattle.fault_codes.specs.declared.code.Code.{Code}
use Rattle.fault_codes.specs.declared.code.Code.TheVariants.{XUTY0013, XUDY0014}
use Rattle.values.specs.declared.atom.Item.{Item}
use Rattle.values.specs.declared.atom.Item.TheVariants as item
use Rattle.query_grammar.specs.declared.ast.Binding.{Binding}
use Rattle.query_meaning.specs.Environment.{Environment, Bound}
use Rattle.query_meaning.specs.Running.{M, pure, ◌>>=◌, and_then, come_to, copying, seen, each, new_nodes, standing}
use Rattle.query_meaning.specs.Sequences.{Meaning}
use Rattle.query_meaning.specs.Updates.{must}
use Rattle.update_meaning.specs.Effects.{target_of}
use Rattle.update_meaning.specs.Changed.{chosen, rooted_at, applied_to_copies}

-- a variable, and the root of the copy that it is bound to
pub record Copy : Type 0 where
  pub variable : List ℕ
  pub root : ℕ

abbrev pub roots_of : List Copy → List ℕ
roots_of cs = map (λ (c : Copy). c.root) cs

-- all of the variables are bound; of equal names the last counts
abbrev pub bound_to : Copy → Bound
bound_to c = record { variable = c.variable; items = item.Node c.root ∷ [] }

abbrev pub with_copies : List Copy → Environment → Environment
with_copies cs env = record env { variables = map bound_to cs ++ env.variables }

-- what is copied is one node
abbrev pub one_node : List Item → M ℕ
one_node (item.Node i ∷ []) = pure i
one_node _ = come_to (Err XUTY0013)

-- The copy of a node stands among the trees, and its nodes have the next identities, in preorder.
abbrev pub copy_of : ℕ → M ℕ
copy_of i = do
  _ ← copying i
  us ← seen (pick i)
  n ← new_nodes (size us)
  _ ← standing (renumbered n us)
  pure n

-- one copy more, before the others: its source is evaluated in the environment of the whole, and the copy is made at once
abbrev pub and_copy : Environment → List Copy → Binding Meaning → M (List Copy)
and_copy env cs b = do
  items ← b.source env
  i ← one_node items
  k ← copy_of i
  pure (record { variable = b.variable; root = k } ∷ cs)

abbrev pub copies : List (Binding Meaning) → Environment → M (List Copy)
copies bs env = each (λ _. and_copy env) 0 bs []

-- the primitives that an expression gives, in a list of their own; the list before it stays as it was
abbrev pub own_list : M (List Item) → M (List PrimitiveTerm)
own_list m = λ run. and_then (m (record run { primitives = [] })) (λ _ after. Ok (after.primitives, record after { primitives = run.primitives }))

-- each target is a node of these trees
abbrev pub target_these : Trees → List PrimitiveTerm → Bool
target_these ts ps = list_all (λ p. nat_lt 0 (count (target_of p) ts)) ps

-- the trees that are made become these, if there is no code
abbrev pub becoming : Result ForestTerm Code → M (Unit {0})
becoming (Err code) = come_to (Err code)
becoming (Ok f) = λ run. Ok (tt, record run { shelf = record run.shelf { own = f } })

-- which may stand in one list
abbrev pub compatible : Option Code → M (Unit {0})
compatible None = pure tt
compatible (Some code) = come_to (Err code)

-- primitives change the copies with these roots alone
abbrev pub modified : List ℕ → List PrimitiveTerm → M (Unit {0})
modified is ps = λ run. (do
  _ ← must (target_these (chosen (rooted_at is) run.shelf.own.trees) ps) XUDY0014
  _ ← compatible (conflict ps)
  becoming (applied_to_copies is ps run.shelf.own.next run.shelf.own)) run

abbrev pub copy : List (Binding Meaning) → (changes result : Meaning) → Meaning
copy bs changes result = λ env. do
  cs ← copies bs env
  ps ← own_list (changes (with_copies cs env))
  _ ← modified (roots_of cs) ps
  result (with_copies cs env)
