-- Nodes that are noted.
use Rattle.std.specs.Prelude.{◌≡◌, ◌⊎◌, ◌<◌, ℕ, true, List}
use Rattle.data_model.specs.Trees.{Trees, count}
use Rattle.pending.specs.Compatible.{is_among}

-- more are noted, all of them nodes of these trees
pub record Notes (old new : List ℕ) (ts : Trees) : Type 0 where
  pub grows : (i : ℕ) → is_among old i ≡ true → is_among new i ≡ true
  pub only : (i : ℕ) → is_among new i ≡ true → (is_among old i ≡ true) ⊎ (0 < count i ts)
