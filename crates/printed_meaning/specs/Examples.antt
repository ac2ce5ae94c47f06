-- The data of the worked examples.
use Rattle.std.specs.Prelude.{ℕ, zero, suc, [], ◌∷◌, codes, Result}
use Rattle.data_model.specs.Trees.{Trees, no_trees, tree, leaf}
use Rattle.data_model.specs.declared.node.Kind.TheVariants as kind
use Rattle.values.specs.declared.atom.Item.TheVariants as item
use Rattle.trees.specs.Forest.{opening_forest}
use Rattle.fault_codes.specs.declared.code.Code.{Code}
use Rattle.query_meaning.specs.Environment.{no_environment}
use Rattle.query_meaning.specs.Examples.{sixteen, with_work}
use Rattle.query_meaning.specs.Meaning.{Outcome, mean, outcome, start}
use Rattle.query_grammar.specs.declared.ast.Expr.{Expr}

-- so many elements, each in the one before it
abbrev pub chain : ℕ → Trees
chain zero = no_trees
chain (suc n) = tree (record { identity = suc n; kind = kind.Element; name = codes "e"; text = [] }) no_trees (chain n) no_trees

-- an element in an element, with a text of 16 bytes
abbrev pub sixteen_bytes : Trees
sixteen_bytes = tree (record { identity = 1; kind = kind.Element; name = codes "e"; text = [] }) no_trees
    (tree (record { identity = 2; kind = kind.Element; name = codes "f"; text = [] }) no_trees
    (leaf (record { identity = 3; kind = kind.Text; name = []; text = sixteen })) no_trees) no_trees

-- an attribute 1 and a text 2, then the element 3 with copies of them, 4 and 5
abbrev pub made_again : Outcome
made_again = record {
  items = item.Node 3 ∷ [];
  primitives = [];
  trees = tree (record { identity = 1; kind = kind.Attribute; name = codes "n"; text = 34 ∷ 38 ∷ 9 ∷ 10 ∷ 13 ∷ [] }) no_trees no_trees
      (tree (record { identity = 2; kind = kind.Text; name = []; text = codes "t" }) no_trees no_trees
      (tree (record { identity = 3; kind = kind.Element; name = codes "e"; text = [] }) (leaf (record { identity = 4; kind = kind.Attribute; name = codes "n"; text = 34 ∷ 38 ∷ 9 ∷ 10 ∷ 13 ∷ [] }))
      (leaf (record { identity = 5; kind = kind.Text; name = []; text = codes "t" })) no_trees));
  next = 6;
}

-- what an expression comes to over a forest of no documents, where so much work may be done
abbrev pub made_by : ℕ → Expr → Result Outcome Code
made_by n x = outcome (mean x no_environment (with_work n (start (opening_forest []))))
