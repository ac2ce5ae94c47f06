-- What code holds of a world, and which worlds of the protocol that shows.
use Rattle.std.specs.Prelude.{◌≡◌, ◌⊎◌, ℕ, List, length, Some}
use Rattle.ballots.specs.Messages.{Packet}
use Rattle.ballots.specs.Terms.{Setup}
use Rattle.ballots.specs.declared.value.Value.{Value}
use Rattle.node.specs.Nodes.{IsForClients}
use Rattle.paxos.specs.Lists.{at, Has}
use Rattle.paxos.specs.Records.{Record}
use Rattle.paxos.specs.World.{Told, World as Whole, Member as Part}
use Rattle.world.specs.Seats.{IsKeptAt, IsPart, IsSeat, Stands}
use Rattle.world.specs.declared.seat.Seat.{Seat}

-- How many members there are, of which group and over which documents; where each of them sits; all messages in the order of their numbers, as
-- their bytes say them; and all that was told.
pub record World (R A : Type 0) : Type 0 where
  pub members : ℕ
  pub group : ℕ
  pub names : List (List ℕ)
  pub seats : List (Seat R A)
  pub sent : List Packet
  pub told : List Told

-- what the member of a number is told when it is set up
abbrev pub setup_of : {R A : Type 0} → World R A → (number : ℕ) → Setup
setup_of w m = record { group = w.group; member = m; members = w.members; names = w.names }

-- each member sits at its place
abbrev pub AreSeats : {R A : Type 0} → World R A → Type 0
AreSeats {R} {A} w = (m : ℕ) (s : Seat R A) → at w.seats m ≡ Some s → IsSeat (setup_of w m) s

-- all records are kept: nobody else writes them, and what was written is returned
abbrev pub AreKept : {R A : Type 0} → (is_kept : R → Type 0) → World R A → Type 0
AreKept {R} {A} is_kept w = (m : ℕ) (s : Seat R A) → at w.seats m ≡ Some s → IsKeptAt is_kept s

-- for each member these two records stand
abbrev pub AllStand : {R A : Type 0} → (stands : R → Record → Record → Type 0) → World R A → (first second : ℕ → Record) → Type 0
AllStand {R} {A} stands w first second = (m : ℕ) (s : Seat R A) → at w.seats m ≡ Some s → Stands stands s (first m) (second m)

-- for each member one of two records
abbrev pub Picks : (kept first second : ℕ → Record) → Type 0
Picks kept first second = (m : ℕ) → (kept m ≡ first m) ⊎ (kept m ≡ second m)

-- A world of the protocol is shown: the same was sent and told, and each member is the node that sits there, with a record that was picked.
-- What is for clients went to them.
pub record Shows {R A : Type 0} (has_applied : List (List ℕ) → List Value → A → Type 0) (w : World R A) (kept : ℕ → Record) (v : Whole) : Type 0 where
  pub sent : v.sent ≡ w.sent
  pub told : v.told ≡ w.told
  pub size : length v.members ≡ length w.seats
  pub parts : (m : ℕ) (s : Seat R A) (y : Part) → at w.seats m ≡ Some s → at v.members m ≡ Some y → IsPart has_applied s (kept m) y
  pub for_clients : (k : Packet) → Has w.sent k → IsForClients k.body → k.target ≡ 0
