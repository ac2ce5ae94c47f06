use Rattle.std.proofs.Common.{◌≡◌, drop, is_some}
use Rattle.std.specs.List.{list_all}
use Rattle.world.specs.declared.seat.Seat.{Seat}
use Rattle.world.proofs.state.State.all_run.Given as goal

-- at the seats that were looked at members run
abbrev pub invariant-loop-seat : goal.invariant-loop-seat
invariant-loop-seat g l = list_all (λ (s : Seat g.row.R.Denot g.row.A.Denot). is_some s.node) (drop l.seat-index l.self.seats.items) ≡ list_all (λ (s : Seat g.row.R.Denot g.row.A.Denot). is_some s.node) l.self.seats.items
