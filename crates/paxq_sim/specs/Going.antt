-- How far code is in a simulation.
use Rattle.std.specs.Prelude.{◌≡◌, ◌+◌, ◌≤◌, ℕ, List, Some, map, length}
use Rattle.records.specs.Script.{Script, Stands, fates_of}
use Rattle.event_files.specs.EventFiles.{EventFileTerm}
use Rattle.event_files.specs.declared.command.Command.{Command}
use Rattle.event_files.specs.declared.first.Failure.{Failure}
use Rattle.paxos.specs.Records.{Record}
use Rattle.paxos.specs.Sound.{Sound}
use Rattle.ballots.specs.declared.value.Value.{Value}
use Rattle.paxos.specs.Application.{Application}
use Rattle.paxos.specs.World.{World as Whole, Deliver}
use Rattle.world.specs.Reached.{ReachedBy, store_at}
use Rattle.world.specs.Shown.{World, Shows}
use Rattle.paxq_sim.specs.Play.{Progress, State, Plays, after_all, fate, is_among, opening, undelivered}

-- what comes of the writes of each store is what the file says, after so many of them
abbrev pub IsKnown : {A : Type 0} → List Failure → World Script A → (written : ℕ → ℕ) → Type 0
IsKnown failures w written = (m : ℕ) (r : Script) → store_at w.seats m ≡ Some r → (k : ℕ) → fates_of r k ≡ Some (fate failures m (written m + k))

-- The commands lead n members to this world, with so many messages delivered and these numbers named, and what code holds has stores
-- that were written so often.
pub record Comes {A : Type 0} (app : Application) (failures : List Failure) (n : ℕ) (done : List Command) (w : World Script A) (delivered : ℕ) (named : List ℕ) (v : Whole) : Type 0 where
  pub progress : Progress
  pub plays : Plays app failures (opening n) done progress
  pub world_is : progress.state.world ≡ v
  pub known : IsKnown failures w progress.state.written
  pub delivered_is : progress.delivered ≡ delivered
  pub named_are : (k : ℕ) → is_among progress.named k ≡ is_among named k
  pub within : delivered ≤ length v.sent
  pub sound : Sound n v

-- They lead to a world from which the deliveries up to this number lead to this one.
pub record Delivers {A : Type 0} (app : Application) (failures : List Failure) (n : ℕ) (done : List Command) (w : World Script A) (delivered : ℕ) (named : List ℕ) (v : Whole) : Type 0 where
  pub progress : Progress
  pub plays : Plays app failures (opening n) done progress
  pub state : State
  pub state_is : state ≡ after_all app failures progress.state (map Deliver (undelivered progress delivered))
  pub world_is : state.world ≡ v
  pub known : IsKnown failures w state.written
  pub above : progress.delivered ≤ delivered
  pub named_are : (k : ℕ) → is_among progress.named k ≡ is_among named k
  pub within : delivered ≤ length v.sent
  pub sound : Sound n v

-- What code holds is where these commands lead n members, over documents of these names, where an application means that.
abbrev pub HasCome : {A : Type 0} → (has_applied : List (List ℕ) → List Value → A → Type 0) → (meaning : List (List ℕ) → Application) → List Failure → (n : ℕ) → (names : List (List ℕ)) → List Command → World Script A → (delivered : ℕ) → (named : List ℕ) → Type 0
HasCome has_applied meaning failures n names done w delivered named = (w.members ≡ n) × (w.names ≡ names) × ReachedBy Stands has_applied w (Comes (meaning names) failures n done w delivered named)

-- and where deliveries up to a number lead from there
abbrev pub IsDelivering : {A : Type 0} → (has_applied : List (List ℕ) → List Value → A → Type 0) → (meaning : List (List ℕ) → Application) → List Failure → (n : ℕ) → (names : List (List ℕ)) → List Command → World Script A → (delivered : ℕ) → (named : List ℕ) → Type 0
IsDelivering has_applied meaning failures n names done w delivered named = (w.members ≡ n) × (w.names ≡ names) × ReachedBy Stands has_applied w (Delivers (meaning names) failures n done w delivered named)

-- it is a group of the members and the documents that an event file names, and shows where the file's commands lead
abbrev pub HasPlayed : {A : Type 0} → (has_applied : List (List ℕ) → List Value → A → Type 0) → (meaning : List (List ℕ) → Application) → EventFileTerm → World Script A → Type 0
HasPlayed has_applied meaning f w = (w.members ≡ f.group.members) × (w.names ≡ f.group.names) × (end : Progress) × Plays (meaning f.group.names) f.failures (opening f.group.members) f.commands end × (kept : ℕ → Record) × Shows has_applied w kept end.state.world
