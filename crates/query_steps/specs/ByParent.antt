-- Nodes that are listed by their parents.
use Rattle.std.specs.Prelude.{◌≡◌, ℕ, eqb, List, [], map, unwrap_or, IsSome}
use Rattle.std.specs.Map.{lookup}
use Rattle.std.specs.declared.alloc.Global.{Global}
use Rattle.std.specs.declared.vec.Vec.{Vec}
use Rattle.data_model.specs.Trees.{find}
use Rattle.data_model.specs.declared.axis.Axis.TheVariants.{Child}
use Rattle.shelves.specs.Shelf.{ShelfTerm, shelf_trees}
use Rattle.query_grammar.specs.declared.ast.NodeTest.{NodeTest}
use Rattle.query_meaning.specs.Paths.{tested_nodes}

-- nodes, each with what is listed of it
abbrev pub lists_of : List (ℕ × Vec ℕ Global) → List (ℕ × List ℕ)
lists_of es = map (λ e. (e.0, e.1.items)) es

-- what is listed of the node i
abbrev pub listed_of : ℕ → List (ℕ × List ℕ) → List ℕ
listed_of i lists = unwrap_or (lookup (eqb i) lists) []

-- of each node of the lent forest those children are listed that pass the test, in document order
pub record ListsChildren (t : NodeTest) (s : ShelfTerm) (lists : List (ℕ × List ℕ)) : Type 0 where
  pub each : (i : ℕ) → IsSome (find i s.lent.trees) → listed_of i lists ≡ tested_nodes Child t i (shelf_trees s)
