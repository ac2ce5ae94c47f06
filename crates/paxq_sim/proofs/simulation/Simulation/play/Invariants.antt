use Rattle.std.proofs.Common.{◌≡◌, ℕ, List, [], take}
use Rattle.event_files.specs.declared.first.Failure.{Failure}
use Rattle.paxq_sim.specs.Going.{HasCome}
use Rattle.paxq_sim.proofs.simulation.Simulation.play.Given as goal

-- the commands before are done
abbrev pub invariant-loop-command : goal.invariant-loop-command
invariant-loop-command g l =
    (l.self.world.members ≡ l.initial.self.world.members)
    × ((failures : List Failure) (n : ℕ) (names : List (List ℕ))
    → HasCome {A = g.row.A.Denot} g.A.Application.has_applied g.A.Application.meaning failures n names [] l.initial.self.world l.initial.self.delivered l.initial.self.named → HasCome {A = g.row.A.Denot} g.A.Application.has_applied g.A.Application.meaning failures n names (take l.command-index l.commands) l.self.world l.self.delivered l.self.named)
