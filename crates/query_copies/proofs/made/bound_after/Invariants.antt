use Rattle.std.proofs.Common.{◌≡◌, drop}
use Rattle.query_copies.specs.Made.{variables_after}
use Rattle.query_copies.proofs.made.bound_after.Given as goal

abbrev pub invariant-loop-copy : goal.invariant-loop-copy
invariant-loop-copy l = variables_after l.variables (drop l.copy-index l.copies) ≡ variables_after l.others l.copies
