-- Agreement, for what code holds.
use Rattle.std.proofs.Common.{ℕ, refl, inl, List}
use Rattle.ballots.specs.declared.value.Value.{Value}
use Rattle.paxos.specs.Application.{Application}
use Rattle.paxos.specs.Records.{Record}
use Rattle.paxos.specs.World.{Event as Happens}
use Rattle.paxos.proofs.Runs.{each_run_agrees}
use Rattle.world.specs.Reached.{Reached}
use Rattle.world.specs.Runs.{Agrees}
use Rattle.world.specs.Shown.{World}

pub agrees : {R A : Type 0} (stands : R → Record → Record → Type 0) (has_applied : List (List ℕ) → List Value → A → Type 0) (w : World R A) (app : Application) (events : List Happens) → Reached stands has_applied app w events → Agrees has_applied app w events
agrees stands has_applied w app events reached =
    let led = reached.runs reached.first (λ k. inl refl) in
    (led.0, reached.first, led.1, led.2, each_run_agrees app w.members events led.0 led.1)
