use Rattle.std.proofs.Common.{◌≡◌, ℕ, Some, length}
use Rattle.std.specs.Option.{option_or}
use Rattle.row_pages.specs.Rows.{get, entries}
use Rattle.forest_index.proofs.index.write_all.Given as goal

-- with those written that are left, no size is another than it is to be
abbrev pub invariant-loop-root : goal.invariant-loop-root
invariant-loop-root l = (r n : ℕ) → option_or (get l.resized r) (get l.sizes r) ≡ Some n → option_or (get l.fn.resized r) (get l.fn.sizes r) ≡ Some n

abbrev pub decreases-loop-root : goal.decreases-loop-root
decreases-loop-root l = length (entries l.resized)
