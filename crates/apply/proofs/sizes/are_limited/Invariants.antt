use Rattle.std.proofs.Common.{◌≡◌, true, drop}
use Rattle.tracked_drafts.specs.Tests.{all_but, is_limited}
use Rattle.apply.proofs.sizes.are_limited.Given as goal

-- the touched nodes from this one on are left
abbrev pub invariant-loop-at : goal.invariant-loop-at
invariant-loop-at l = all_but (drop l.at l.draft.touched) is_limited 0 l.draft.draft.after ≡ true
