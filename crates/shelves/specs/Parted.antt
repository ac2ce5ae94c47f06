-- Two forests whose identities a number parts.
use Rattle.std.specs.Prelude.{ℕ, ◌≤◌, ◌<◌}
use Rattle.data_model.specs.Trees.{Trees, count}

-- the identities of ts lie below n, and those of us do not
pub record IsParted (n : ℕ) (ts us : Trees) : Type 0 where
  pub below : (i : ℕ) → 0 < count i ts → i < n
  pub above : (i : ℕ) → 0 < count i us → n ≤ i
