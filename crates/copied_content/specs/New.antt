-- New trees, which stand nowhere yet.
use Rattle.std.specs.Prelude.{◌≡◌, ℕ, ◌≤◌, ◌<◌}
use Rattle.data_model.specs.Trees.{Trees, count}
use Rattle.query_meaning.specs.Running.{Run}

-- what stands is as it was, and each of their nodes has one of the identities that were taken meanwhile
pub record IsNew (old : Run) (us : Trees) (new : Run) : Type 0 where
  pub lent : new.shelf.lent ≡ old.shelf.lent
  pub own : new.shelf.own.trees ≡ old.shelf.own.trees
  pub next : old.shelf.own.next ≤ new.shelf.own.next
  pub distinct : (i : ℕ) → count i us ≤ 1
  pub later : (i : ℕ) → 0 < count i us → old.shelf.own.next ≤ i
  pub below : (i : ℕ) → 0 < count i us → i < new.shelf.own.next
