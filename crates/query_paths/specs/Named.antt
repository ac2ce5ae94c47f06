-- A segment of a path that is a step to children, without predicates: what it gives for each item of its left side.
use Rattle.std.specs.Prelude.{ℕ, List, []}
use Rattle.data_model.specs.declared.axis.Axis.TheVariants.{Child}
use Rattle.values.specs.declared.atom.Item.{Item}
use Rattle.query_grammar.specs.declared.ast.NodeTest.{NodeTest}
use Rattle.query_meaning.specs.Environment.{no_environment}
use Rattle.query_meaning.specs.Operators.{nodes}
use Rattle.query_meaning.specs.Paths.{Found, all_found, node_of}
use Rattle.query_meaning.specs.Running.{M, ◌>>=◌, come_to, counted, each, turn, within, work}
use Rattle.query_paths.specs.Steps.{step_at}

-- nodes as items, once the work of looking at so many is taken
abbrev pub looked_up : (looked_at : ℕ) → List ℕ → M (List Item)
looked_up n is = work n >>= (λ _. come_to (within (nodes is)))

-- what the step gives from an item; nothing of it is evaluated, so no environment is looked at
abbrev pub children_of_item : NodeTest → Item → M (List Item)
children_of_item t x = come_to (node_of x) >>= (λ i. step_at Child t [] i no_environment)

-- the same with its work, which is found in a turn
abbrev pub found_children : NodeTest → Found → Item → M Found
found_children t f x = turn (counted (children_of_item t x) >>= all_found f)

-- for all of them
abbrev pub gathered_children : NodeTest → List Item → M Found
gathered_children t items = each (λ _. found_children t) 0 items (record { nodes = []; atoms = [] })
