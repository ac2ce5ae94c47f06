use Rattle.std.proofs.Common.{◌≡◌, ◌≤◌, ℕ, Some}
use Rattle.paxos.specs.Lists.{at}
use Rattle.world.specs.Seats.{IsUpToDate}
use Rattle.world.specs.declared.seat.Seat.{Seat}
use Rattle.world.proofs.state.State.all_applied.Given as goal

-- the nodes at the seats that were looked at have applied all
abbrev pub invariant-loop-seat : goal.invariant-loop-seat
invariant-loop-seat g l = (m : ℕ) (s : Seat g.row.R.Denot g.row.A.Denot) → m ≤ l.seat-index → at l.self.seats.items m ≡ Some s → IsUpToDate {R = g.row.R.Denot} {A = g.row.A.Denot} g.A.Application.has_applied s
