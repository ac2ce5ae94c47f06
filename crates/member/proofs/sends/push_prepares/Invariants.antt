use Rattle.std.proofs.Common.{◌≡◌, ◌++◌, map, take}
use Rattle.member.specs.Drafts.{prepare_send}
use Rattle.member.proofs.sends.push_prepares.Given as goal

abbrev pub invariant-loop-asked : goal.invariant-loop-asked
invariant-loop-asked l = l.sends.items ≡ l.initial.sends.items ++ map (prepare_send l.said.ballot) (take l.asked-index l.said.prepares.items)
