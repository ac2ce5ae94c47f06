-- A step in two parts: the node that it is taken from, and what it gives there.
use Rattle.std.specs.Prelude.{ℕ, List, Result, Ok, Err}
use Rattle.fault_codes.specs.declared.code.Code.{Code}
use Rattle.values.specs.declared.atom.Item.{Item}
use Rattle.data_model.specs.declared.axis.Axis.{Axis}
use Rattle.query_grammar.specs.declared.ast.NodeTest.{NodeTest}
use Rattle.query_meaning.specs.Environment.{Environment, Focus}
use Rattle.query_meaning.specs.Operators.{nodes}
use Rattle.query_meaning.specs.Paths.{looked_at, tested_nodes, predicates, in_direction, node_of}
use Rattle.query_meaning.specs.Running.{M, ◌>>=◌, come_to, seen, work, within}
use Rattle.query_meaning.specs.Sequences.{Meaning, focus_of}

abbrev pub node_in : Result Focus Code → Result ℕ Code
node_in (Ok f) = node_of f.item
node_in (Err code) = Err code

-- the context item as a node
abbrev pub context_node : Environment → Result ℕ Code
context_node env = node_in (focus_of env)

-- what the step gives of the nodes that it finds
abbrev pub chosen_from : Axis → List Meaning → (found : List ℕ) → Environment → M (List Item)
chosen_from a ms is env = do
  left ← predicates ms env (in_direction a (nodes is))
  come_to (within (in_direction a left))

-- what the step gives from a node
abbrev pub step_at : Axis → NodeTest → List Meaning → (node : ℕ) → Environment → M (List Item)
step_at a t ms i env = (seen (looked_at a i) >>= work) >>= (λ _. seen (tested_nodes a t i) >>= (λ is. chosen_from a ms is env))
