-- What the steps of `copy .. modify .. return` (XQuery Update Facility 1.0, section 2.4.5) leave.
use Rattle.std.specs.Prelude.{◌≡◌, ◌≤◌, ◌<◌, ℕ, false, List, Result, Ok, Err, IsSome}
use Rattle.std.specs.List.{All}
use Rattle.chosen_drafts.specs.Chosen.{IsRoot}
use Rattle.data_model.specs.Trees.{Trees, append, count, find}
use Rattle.pending.specs.Compatible.{has_repeat}
use Rattle.pending.specs.Primitives.{PrimitiveTerm}
use Rattle.values.specs.declared.fault.ValueFault.{ValueFault}
use Rattle.update_meaning.specs.Brought.{new_trees}
use Rattle.query_meaning.specs.Running.{M, Run, trees_of}
use Rattle.evaluation.specs.Gives.{Fails, Grows}

-- what stood is as it was, and new trees come after it
pub record Adds (old new : Run) : Type 0 where
  pub lent : new.shelf.lent ≡ old.shelf.lent
  pub more : Trees
  pub own : new.shelf.own.trees ≡ append old.shelf.own.trees more

-- the root of a copy, a node that did not stand before
pub record IsCopy (old : Run) (root : ℕ) (new : Run) : Type 0 where
  pub adds : Adds old new
  pub stands : IsRoot new.shelf.own.trees root
  pub is_new : count root (trees_of old) ≡ 0

-- the roots of copies that were made since
pub record AreCopies (start : Run) (roots : List ℕ) (now : Run) : Type 0 where
  pub adds : Adds start now
  pub apart : has_repeat roots ≡ false
  pub stand : All (IsRoot now.shelf.own.trees) roots
  pub are_new : All (λ i. count i (trees_of start) ≡ 0) roots

-- once they are changed, they stand still, and what stood before them
pub record Survive (start : Run) (roots : List ℕ) (now : Run) : Type 0 where
  pub grown : Grows start now
  pub stand : All (λ i. IsSome (find i (trees_of now))) roots

-- each node that primitives bring is new: none that stands, and no other of theirs; all that was made comes after the lent forest
pub record Bring (ps : List PrimitiveTerm) (run : Run) : Type 0 where
  pub distinct : (i : ℕ) → count i (append (trees_of run) (new_trees ps)) ≤ 1
  pub later : (i : ℕ) → 0 < count i (append run.shelf.own.trees (new_trees ps)) → run.shelf.lent.next ≤ i
  pub below : (i : ℕ) → 0 < count i (append run.shelf.own.trees (new_trees ps)) → i < run.shelf.own.next

-- what steps come to that may lose nodes
abbrev pub Comes : {A : Type 0} → M A → Run → Result A ValueFault → Run → Type 0
Comes m old (Ok a) new = m old ≡ Ok (a, new)
Comes m old (Err fault) new = Fails (m old) fault
