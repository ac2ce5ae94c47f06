use Rattle.std.proofs.Common.{◌≡◌, ◌++◌, take}
use Rattle.data_model.specs.Trees.{roots}
use Rattle.data_model.specs.Tree.{all_of}
use Rattle.node_plans.proofs.splice.add_roots.Given as goal

abbrev pub invariant-loop-tree : goal.invariant-loop-tree
invariant-loop-tree l = l.nodes.items ≡ l.fn.nodes.items ++ roots (all_of (take l.tree-index l.trees))
