use Rattle.std.proofs.Common.{◌≡◌, true, drop}
use Rattle.tracked_drafts.specs.Tests.{all_but, is_named}
use Rattle.apply.proofs.names.are_named.Given as goal

-- the touched nodes from this one on are left
abbrev pub invariant-loop-at : goal.invariant-loop-at
invariant-loop-at l = all_but (drop l.at l.draft.touched) is_named 0 l.draft.draft.after ≡ true
