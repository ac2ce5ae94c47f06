-- The only member of a group, as a script's commands meet it.
use Rattle.std.specs.Prelude.{◌≡◌, ℕ, Bool, List, length, Some}
use Rattle.ballots.specs.declared.value.Value.{Value}
use Rattle.node.specs.Nodes.{RunsAs}
use Rattle.paxos.specs.Knowledge.{learnt, news}
use Rattle.paxos.specs.Records.{Record}
use Rattle.paxos.specs.Step.{Running}
use Rattle.published.specs.Stores.{Keeps}
use Rattle.readers.specs.Handing.{Site, HasHanded}
use Rattle.sessions.specs.Session.{SessionTerm, Means}
use Rattle.paxq_run.specs.Play.{Turn, IsTurn}

-- Its node runs as some member of a world, which has applied all that was handed on, or more.
abbrev pub Runs : Site Record SessionTerm → Type 0
Runs s = (running : Running) × RunsAs Means running s.node × HasHanded running s

-- It runs on, and what readers are shown stays.
pub record GoesOn (old new : Site Record SessionTerm) : Type 0 where
  pub runs : Runs old → Runs new
  pub keeps : Keeps old.store new.store
  pub setup : new.node.setup ≡ old.node.setup

-- It has applied just so many positions, and learnt that value at the last of them.
abbrev pub IsLast : Site Record SessionTerm → Running → (position : ℕ) → Value → Type 0
IsLast s running position value = (running.applied ≡ position) × (learnt s.node.setup.members position (news running.heard) ≡ Some value)

-- Over documents of these names just these values are applied and shown, and they are what a reader has seen.
pub record Shows (names : List (List ℕ)) (values : List Value) (s : Site Record SessionTerm) (sight : List Value) : Type 0 where
  pub running : Running
  pub runs_as : RunsAs Means running s.node
  pub handed : HasHanded running s
  pub names_are : s.node.setup.names ≡ names
  pub applied : running.applied ≡ length values
  pub shown : s.store.published ≡ values
  pub seen : sight ≡ values

-- A turn printed what it should, told whether the run goes on, and left the values that it should, applied, shown and seen.
pub record HasTurned (names : List (List ℕ)) (turn : Turn) (printed : List ℕ) (goes_on : Bool) (s : Site Record SessionTerm) (sight : List Value) : Type 0 where
  pub is : IsTurn names turn printed goes_on s.node.application
  pub shows : Shows names turn.values s sight
