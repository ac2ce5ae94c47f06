use Rattle.std.proofs.Common.{◌≡◌, drop}
use Rattle.pending.specs.Compatible.{has_repeat}
use Rattle.update_rows.proofs.copies.has_repeat.Given as goal

abbrev pub invariant-loop-at : goal.invariant-loop-at
invariant-loop-at l = has_repeat l.ids ≡ has_repeat (drop l.at l.ids)
