use Rattle.std.proofs.Common.{◌≡◌}
use Rattle.messages.specs.Reading.{entries_read}
use Rattle.messages.proofs.Elements.{more}
use Rattle.messages.proofs.lists.split_entries.Given as goal

abbrev pub invariant-loop-left : goal.invariant-loop-left
invariant-loop-left l = entries_read l.fn.count l.fn.highest l.fn.least l.fn.most l.fn.bytes ≡ more l.entries.items (entries_read l.left l.fn.highest l.next l.fn.most l.rest)

abbrev pub decreases-loop-left : goal.decreases-loop-left
decreases-loop-left l = l.left
