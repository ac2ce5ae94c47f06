-- Trees of a forest that are not among some of it, by their roots, and nodes that are roots.
use Rattle.std.specs.Prelude.{◌≡◌, ℕ, not, List, None, IsSome}
use Rattle.std.specs.List.{sum_by}
use Rattle.data_model.specs.Trees.{Trees, weigh, find, parent_of}
use Rattle.update_meaning.specs.Changed.{rooted_at, chosen}

-- the trees of other roots than these
abbrev pub others : List ℕ → Trees → Trees
others is = chosen (λ c. not (rooted_at is c))

-- the node i stands in the trees, and has no parent
abbrev pub IsRoot : Trees → ℕ → Type 0
IsRoot ts i = IsSome (find i ts) × (parent_of i ts ≡ None)

-- the identities of all nodes of the trees, each as often as it stands there, in whatever order: what is summed over them is the same
abbrev pub AreNodesOf : List ℕ → Trees → Type 0
AreNodesOf is ts = (w : ℕ → ℕ) → sum_by w is ≡ weigh w ts
