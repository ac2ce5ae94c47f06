use Rattle.std.proofs.Common.{◌≡◌, ◌++◌, map, take}
use Rattle.member.specs.Drafts.{accept_send}
use Rattle.member.proofs.sends.push_accepts.Given as goal

abbrev pub invariant-loop-pair : goal.invariant-loop-pair
invariant-loop-pair l = l.sends.items ≡ l.initial.sends.items ++ map (accept_send l.said.ballot) (take l.pair-index l.said.accepts.items)
