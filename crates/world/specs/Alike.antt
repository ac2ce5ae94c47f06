-- What nodes hold that have applied as many positions.
use Rattle.std.specs.Prelude.{◌≡◌, ℕ, List, length, Some}
use Rattle.ballots.specs.Messages.{Packet}
use Rattle.ballots.specs.declared.value.Value.{Value}
use Rattle.node.specs.Nodes.{Node}
use Rattle.paxos.specs.Agreement.{Agreement, IsChosen}
use Rattle.paxos.specs.Application.{Application}
use Rattle.paxos.specs.Lists.{Has, at}
use Rattle.paxos.specs.Records.{Record}
use Rattle.paxos.specs.World.{Told, World as Whole, Event as Happens, Run, start}
use Rattle.world.specs.Reached.{Reached}
use Rattle.world.specs.Runs.{node_at}
use Rattle.world.specs.Shown.{World}

-- The node has applied just these values, in this order, and each of them is chosen at its position.
pub record HasAppliedChosen {R A : Type 0} (has_applied : List (List ℕ) → List Value → A → Type 0) (w : World R A) (v : Whole) (x : Node R A) (values : List Value) : Type 0 where
  pub applied : has_applied w.names values x.application
  pub chosen : (position : ℕ) (value : Value) → at values position ≡ Some value → IsChosen v position value

-- In a world of the protocol to which the events have led, each of two nodes has applied values chosen at the positions from 1 on; and where
-- they have applied as many, these are the same values: the stores are those that the values mean, and each question is answered alike.
pub record AreAlike {R A : Type 0} (has_applied : List (List ℕ) → List Value → A → Type 0) (app : Application) (w : World R A) (events : List Happens) (x y : Node R A) : Type 0 where
  pub whole : Whole
  pub run : Run app (start w.members) events whole
  pub first : List Value
  pub second : List Value
  pub first_chosen : HasAppliedChosen has_applied w whole x first
  pub second_chosen : HasAppliedChosen has_applied w whole y second
  pub same : length first ≡ length second → first ≡ second

-- each of the values is chosen at its position
abbrev pub AreChosen : Whole → List Value → Type 0
AreChosen v values = (position : ℕ) (value : Value) → at values position ≡ Some value → IsChosen v position value

-- the nodes that run there have applied values chosen at the positions from 1 on
abbrev pub HaveAppliedChosen : {R A : Type 0} → (has_applied : List (List ℕ) → List Value → A → Type 0) → World R A → Whole → Type 0
HaveAppliedChosen {R} {A} has_applied w v = (m : ℕ) (x : Node R A) → node_at w.seats m ≡ Some x → (values : List Value) × HasAppliedChosen has_applied w v x values

-- Two moments of one run, now and later. In a world of the protocol to which all events have led: what was sent and told now still is later; what was
-- told is chosen; the nodes of both moments have applied values that are chosen; and as many chosen values are the same values.
pub record StayAlike {R A : Type 0} (stands : R → Record → Record → Type 0) (has_applied : List (List ℕ) → List Value → A → Type 0) (app : Application) (now later : World R A) (events : List Happens) : Type 0 where
  pub members : later.members ≡ now.members
  pub names : later.names ≡ now.names
  pub reached : Reached stands has_applied app later events
  pub whole : Whole
  pub run : Run app (start later.members) events whole
  pub agreement : Agreement whole
  pub sent : (k : Packet) → Has now.sent k → Has later.sent k
  pub told : (t : Told) → Has now.told t → Has later.told t
  pub chosen : (t : Told) → Has later.told t → IsChosen whole t.pair.position t.pair.value
  pub nodes_now : HaveAppliedChosen has_applied now whole
  pub nodes_later : HaveAppliedChosen has_applied later whole
  pub same : (first second : List Value) → AreChosen whole first → AreChosen whole second → length first ≡ length second → first ≡ second
