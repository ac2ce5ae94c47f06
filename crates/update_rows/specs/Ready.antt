-- Copies, or a store, and a list of primitives that may be applied to them.
use Rattle.std.specs.Prelude.{◌≡◌, false, map}
use Rattle.std.specs.List.{All}
use Rattle.data_model.specs.Trees.{count}
use Rattle.chosen_drafts.specs.Chosen.{IsRoot}
use Rattle.pending.specs.Compatible.{has_repeat}
use Rattle.pending.specs.Primitives.{primitive_term}
use Rattle.update_meaning.specs.Brought.{new_trees}
use Rattle.update_meaning.specs.Results.{IsStored}
use Rattle.update_words.specs.New.{AreNew}
use Rattle.update_rows.specs.declared.copies.Copies.{Copies}
use Rattle.update_rows.specs.declared.undo.Listed.{Listed}

-- the copies have distinct roots with no parent, and what the list brings is new
pub record AreReady (copies : Copies) : Type 0 where
  pub apart : has_repeat copies.roots.items ≡ false
  pub roots : All (IsRoot copies.forest.trees) copies.roots.items
  pub brings : AreNew copies.forest.next (λ i. count i (new_trees (map primitive_term copies.list))) copies.next

-- the store is one that an update may leave, and what the list brings is new
pub record IsListed (listed : Listed) : Type 0 where
  pub stored : IsStored listed.forest.trees
  pub brings : AreNew listed.forest.next (λ i. count i (new_trees (map primitive_term listed.list))) listed.next
