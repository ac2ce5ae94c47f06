-- A copy of the tree of a node, but for its work.
use Rattle.std.specs.Prelude.{ℕ}
use Rattle.data_model.specs.Changes.{pick, renumbered}
use Rattle.data_model.specs.Trees.{size}
use Rattle.query_meaning.specs.Running.{M, pure, ◌>>=◌, seen, new_nodes, standing}

abbrev pub standing_copy : ℕ → M ℕ
standing_copy i = do
  us ← seen (pick i)
  n ← new_nodes (size us)
  _ ← standing (renumbered n us)
  pure n
