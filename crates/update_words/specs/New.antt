-- Identities of nodes that are made one after the other.
use Rattle.std.specs.Prelude.{ℕ, ◌+◌, ◌<◌, ◌≤◌, ◌^◌}
use Rattle.data_model.specs.Trees.{count}
use Rattle.data_model.specs.Tree.{all_of}
use Rattle.pending.specs.Primitives.{primitive_term}
use Rattle.update_meaning.specs.Brought.{trees_of}
use Rattle.update_words.specs.declared.nodes.Grown.{Grown}
use Rattle.update_words.specs.declared.primitives.Brought.{Brought}

-- the nodes, of which there are so many of each identity, have identities of their own, from the first one on and below the next
pub record AreNew (first : ℕ) (nodes : ℕ → ℕ) (next : ℕ) : Type 0 where
  pub later : first ≤ next
  pub bound : next ≤ 2 ^ 62
  pub once : (i : ℕ) → nodes i ≤ 1
  pub least : (i : ℕ) → 0 < nodes i → first ≤ i
  pub below : (i : ℕ) → 0 < nodes i → i < next

abbrev pub IsGrown : ℕ → Grown → Type 0
IsGrown first grown = AreNew first (λ i. count i (all_of grown.attributes.items) + count i (all_of grown.children.items)) grown.next

abbrev pub Brings : ℕ → Brought → Type 0
Brings first brought = AreNew first (λ i. count i (trees_of (primitive_term brought.primitive))) brought.next
