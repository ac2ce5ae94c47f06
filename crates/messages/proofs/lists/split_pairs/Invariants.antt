use Rattle.std.proofs.Common.{◌≡◌}
use Rattle.messages.specs.Reading.{pairs_read}
use Rattle.messages.proofs.Elements.{more}
use Rattle.messages.proofs.lists.split_pairs.Given as goal

abbrev pub invariant-loop-left : goal.invariant-loop-left
invariant-loop-left l = pairs_read l.fn.count 1 l.fn.bytes ≡ more l.pairs.items (pairs_read l.left l.next l.rest)

abbrev pub decreases-loop-left : goal.decreases-loop-left
decreases-loop-left l = l.left
