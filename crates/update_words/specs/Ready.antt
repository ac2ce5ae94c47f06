-- A store and lists of primitives that may be applied to it.
use Rattle.std.specs.Prelude.{◌+◌, map}
use Rattle.data_model.specs.Trees.{count}
use Rattle.pending.specs.Primitives.{primitive_term}
use Rattle.update_meaning.specs.Brought.{new_trees}
use Rattle.update_meaning.specs.Results.{IsStored}
use Rattle.update_words.specs.New.{AreNew}
use Rattle.update_words.specs.declared.desk.Desk.{Desk}

-- the store is one that an update may leave, and what the lists bring is new
pub record IsReady (desk : Desk) : Type 0 where
  pub stored : IsStored desk.forest.trees
  pub brings : AreNew desk.forest.next (λ i. count i (new_trees (map primitive_term desk.list)) + count i (new_trees (map primitive_term desk.other))) desk.next
