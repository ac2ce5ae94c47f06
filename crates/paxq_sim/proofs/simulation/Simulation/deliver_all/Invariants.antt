use Rattle.std.proofs.Common.{◌≡◌, ℕ, ◌-◌, ◌^◌, List}
use Rattle.event_files.specs.declared.command.Command.{Command}
use Rattle.event_files.specs.declared.first.Failure.{Failure}
use Rattle.paxq_sim.specs.Going.{HasCome, IsDelivering}
use Rattle.paxq_sim.proofs.simulation.Simulation.deliver_all.Given as goal

-- messages before are delivered
abbrev pub invariant-loop-self : goal.invariant-loop-self
invariant-loop-self g l =
    (l.self.world.members ≡ l.initial.self.world.members)
    × ((failures : List Failure) (n : ℕ) (names : List (List ℕ)) (done : List Command)
    → HasCome {A = g.row.A.Denot} g.A.Application.has_applied g.A.Application.meaning failures n names done l.initial.self.world l.initial.self.delivered l.initial.self.named → IsDelivering {A = g.row.A.Denot} g.A.Application.has_applied g.A.Application.meaning failures n names done l.self.world l.self.delivered l.self.named)

-- the numbers that are left
abbrev pub decreases-loop-self : goal.decreases-loop-self
decreases-loop-self g l = 2 ^ 64 - l.self.delivered
