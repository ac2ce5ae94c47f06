-- The way from a root down to a node.
use Rattle.std.specs.Prelude.{ℕ, cond, eqb, ltb, List, [], ◌∷◌}
use Rattle.data_model.specs.Trees.{Trees, no_trees, tree, count}

-- the identities from the root of the node's tree down to the node i
abbrev pub path_of : ℕ → Trees → List ℕ
path_of i no_trees = []
path_of i (tree c bs cs rest) =
    cond (eqb i c.identity) (c.identity ∷ []) (cond (ltb 0 (count i bs)) (c.identity ∷ path_of i bs) (cond (ltb 0 (count i cs)) (c.identity ∷ path_of i cs) (path_of i rest)))
