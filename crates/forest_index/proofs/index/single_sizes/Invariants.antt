use Rattle.std.proofs.Common.{◌≡◌, ◌≤◌, ◌<◌, ℕ, Some}
use Rattle.row_pages.specs.Rows.{get}
use Rattle.forest_index.proofs.index.single_sizes.Given as goal

abbrev pub invariant-loop-root : goal.invariant-loop-root
invariant-loop-root l = (r n : ℕ) → get l.sizes r ≡ Some n → (n ≡ 1) × (1 ≤ r) × (r < l.end)
