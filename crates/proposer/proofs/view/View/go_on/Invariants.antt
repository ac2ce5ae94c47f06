use Rattle.std.proofs.Common.{◌≡◌, ◌≤◌, ◌+◌, ◌-◌, List, length}
use Rattle.ballots.specs.declared.value.Pair.{Pair}
use Rattle.proposer.proofs.Going.{Goes}
use Rattle.proposer.proofs.view.View.go_on.Given as goal

abbrev pub decreases-loop-next : goal.decreases-loop-next
decreases-loop-next l = 1000001 - l.next

abbrev pub invariant-loop-next : goal.invariant-loop-next
invariant-loop-next l = (l.waiting + length l.proposals.items ≤ 16) × (1 ≤ l.next) × ((ps : List Pair) → length ps ≡ l.waiting → Goes l.members l.self ps l.from l.next l.proposals.items)
