-- Part of a list of trees that becomes other trees.
use Rattle.std.specs.Prelude.{◌≡◌, ◌≢◌, ℕ, Some, None, ◌+◌, ◌<◌, ◌≤◌, ◌^◌, List, IfSome}
use Rattle.std.specs.List.{slice_get}
use Prim.Native.Nat.{zero, suc}
use Rattle.data_model.specs.declared.node.Part.{Part}
use Rattle.data_model.specs.declared.node.Part.TheVariants.{Attributes, Children}
use Rattle.data_model.specs.Trees.{Trees, no_trees, tree, append, count}
use Rattle.data_model.specs.Walks.{held}
use Rattle.node_table.specs.Flat.{Entry, Table, Holds}
use Rattle.node_table.specs.Labels.{get_before, AreRanked}

-- the first n trees
abbrev pub first_of : ℕ → Trees → Trees
first_of n no_trees = no_trees
first_of zero (tree c bs cs rest) = no_trees
first_of (suc n) (tree c bs cs rest) = tree c bs cs (first_of n rest)

-- the trees after the first n
abbrev pub rest_of : ℕ → Trees → Trees
rest_of n no_trees = no_trees
rest_of zero (tree c bs cs rest) = tree c bs cs rest
rest_of (suc n) (tree c bs cs rest) = rest_of n rest

-- the trees ts, in which us stand in the place of those that have at least `from` and fewer than `to` before them
abbrev pub spliced : ℕ → ℕ → Trees → Trees → Trees
spliced from to us ts = append (first_of from ts) (append us (rest_of to ts))

-- what the table says of a node, with another list in that part
abbrev pub with_list : Part → List ℕ → Entry → Entry
with_list Attributes is e = record e { attributes = is }
with_list Children is e = record e { children = is }

-- the numbers from `first` on, so many, come after that of the node before the place `start` in a list, and before that of the node at the place `end`
pub record IsFree (w : ℕ → ℕ) (xs : List ℕ) (start end count first : ℕ) : Type 0 where
  pub some : 0 < first
  pub low : IfSome (get_before xs start) (λ l. w l < first)
  pub high : IfSome (slice_get xs end) (λ r. first + count ≤ w r)
  pub fits : first + count < 2 ^ 64

-- the table g with the numbers w is f with the numbers v, but that p has `list` in that part, the nodes of `gone` have left it, and the trees us have come below p, whose roots have the numbers from `first` on
pub record Writes (f g : Table) (v w : ℕ → ℕ) (part : Part) (p first : ℕ) (list gone : List ℕ) (us : Trees) : Type 0 where
  pub here : (e : Entry) → f p ≡ Some e → g p ≡ Some (with_list part list e)
  pub planted : Holds g (Some p) us
  pub ranked : AreRanked w first us
  pub left : (i : ℕ) → 0 < held i gone → g i ≡ None
  pub kept : (i : ℕ) → held i gone ≡ 0 → count i us ≡ 0 → i ≢ p → g i ≡ f i
  pub same : (i : ℕ) → held i gone ≡ 0 → count i us ≡ 0 → w i ≡ v i
