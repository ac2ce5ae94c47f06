use Rattle.std.proofs.Common.{◌≡◌, map, take}
use Rattle.paxos.specs.Knowledge.{pair_of}
use Rattle.member.proofs.told.told_at.Given as goal

abbrev pub invariant-loop-position : goal.invariant-loop-position
invariant-loop-position l = l.told.items ≡ map (λ p. pair_of p l.value) (take l.position-index l.positions)
