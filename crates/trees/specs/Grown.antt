-- New nodes whose children are copies.
use Rattle.std.specs.Prelude.{ℕ, ◌+◌, ◌/◌, List, [], ◌∷◌, IsSome}
use Rattle.data_model.specs.Trees.{Trees, no_trees, append, bytes_in, find, size}
use Rattle.data_model.specs.Changes.{pick}
use Rattle.data_model.specs.declared.node.Kind.{Kind}
use Rattle.copied_rows.specs.Copies.{grown}
use Rattle.trees.specs.Forest.{ForestTerm}

-- each of some nodes stands there
abbrev pub AllStand : List ℕ → Trees → Type 0
AllStand [] ts = Unit {0}
AllStand (i ∷ is) ts = IsSome (find i ts) × AllStand is ts

-- the tree of each, one after the other
abbrev pub picked : List ℕ → Trees → Trees
picked [] ts = no_trees
picked (i ∷ is) ts = append (pick i ts) (picked is ts)

-- the work of copying each: a unit for each 16 bytes of its texts
abbrev pub texts_work : List ℕ → Trees → ℕ
texts_work [] ts = 0
texts_work (i ∷ is) ts = bytes_in (pick i ts) / 16 + texts_work is ts

-- a forest with a new node of that kind and name after all others, whose children are copies of those trees
abbrev pub with_node : Kind → (name : List ℕ) → Trees → ForestTerm → ForestTerm
with_node k name us f =
    record f {
      trees = append f.trees (grown (record { identity = f.next; kind = k; name = name; text = [] }) us);
      next = f.next + 1 + size us;
    }
