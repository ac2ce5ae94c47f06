-- What lists of events lead to, and that members agree then.
use Rattle.std.specs.Prelude.{◌≡◌, ◌⊎◌, ◌≤◌, ◌==◌, ◌+◌, ◌-◌, ◌*◌, ℕ, suc, nat_le, if◌then◌else◌, List, [], ◌∷◌, ◌++◌, map, length, take, Option, Some, None, IsSome}
use Rattle.std.specs.Option.{option_and_then}
use Rattle.ballots.specs.Messages.{up_to}
use Rattle.ballots.specs.Terms.{Request}
use Rattle.ballots.specs.declared.value.Value.TheVariants.{Request as Of}
use Rattle.ballots.specs.declared.value.Value.{Value}
use Rattle.node.specs.Nodes.{Node, RunsAs}
use Rattle.paxos.specs.Agreement.{Agreement}
use Rattle.paxos.specs.Application.{Application}
use Rattle.paxos.specs.Knowledge.{pair_of}
use Rattle.paxos.specs.Lists.{at}
use Rattle.paxos.specs.Records.{Record}
use Rattle.paxos.specs.Step.{Running}
use Rattle.paxos.specs.World as protocol
use Rattle.records.specs.Law.{Fate}
use Rattle.paxos.specs.World.{World as Whole, Event as Happens, Run, fresh, start, told_to}
use Rattle.straight_runs.specs.Straight.{closing}
use Rattle.world.specs.Reached.{HasHappened, IsUnmoved, Reached, ReachedSmoothly}
use Rattle.world.specs.Seats.{IsBehind, IsUpToDate}
use Rattle.world.specs.Shown.{World, AreKept, Shows}
use Rattle.world.specs.declared.fault.WorldFault.{WorldFault}
use Rattle.world.specs.declared.fault.WorldFault.TheVariants as fault
use Rattle.world.specs.declared.seat.Seat.{Seat}

-- The records of a store that nobody has written.
abbrev pub IsUnwritten : {R : Type 0} → (stands : R → Record → Record → Type 0) → (is_kept : R → Type 0) → R → Type 0
IsUnwritten stands is_kept r = is_kept r → stands r fresh.kept fresh.kept

-- What led to the old world leads, with these events, to the new one.
pub record LeadsTo {R A : Type 0} (stands : R → Record → Record → Type 0) (is_kept : R → Type 0) (has_applied : List (List ℕ) → List Value → A → Type 0) (app : Application) (old new : World R A) (events : List Happens) : Type 0 where
  pub members : new.members ≡ old.members
  pub names : new.names ≡ old.names
  pub kept : AreKept is_kept new → AreKept is_kept old
  pub reached : AreKept is_kept new → (before : List Happens) → Reached stands has_applied app old before → Reached stands has_applied app new (before ++ events)

-- So it does, and no store stopped a member in them, and each time all was applied.
pub record LeadsSmoothly {R A : Type 0} (stands : R → Record → Record → Type 0) (is_kept : R → Type 0) (has_applied : List (List ℕ) → List Value → A → Type 0) (app : Application) (old new : World R A) (events : List Happens) : Type 0 where
  pub leads : LeadsTo stands is_kept has_applied app old new events
  pub reached : AreKept is_kept new → (before : List Happens) → ReachedSmoothly stands has_applied app old before → ReachedSmoothly stands has_applied app new (before ++ events)

-- one of the members has stopped
abbrev pub OneStopped : {R A : Type 0} → World R A → Type 0
OneStopped {R} {A} w = (m : ℕ) × (s : Seat R A) × (at w.seats m ≡ Some s) × (s.node ≡ None)

-- These events have happened one after the other, each as it says of the world before it and the one after it; and nothing else has.
abbrev pub Ran : {R A : Type 0} → (stands : R → Record → Record → Type 0) → (is_kept : R → Type 0) → (failed : R → ℕ) → (fates : R → ℕ → Fate) → (has_applied : List (List ℕ) → List Value → A → Type 0) → Application → List Happens → (old new : World R A) → Type 0
Ran stands is_kept failed fates has_applied app [] old new = new ≡ old
Ran {R} {A} stands is_kept failed fates has_applied app (e ∷ events) old new =
    (next : World R A) × HasHappened stands is_kept failed fates has_applied app e old next × Ran stands is_kept failed fates has_applied app events next new

-- So have the first of them, as the fault says: as many as it counts, and then memory was refused, which has changed nothing; none; some, in the
-- last of which a store failed and stopped its member.
abbrev pub RanUntil : {R A : Type 0} → (stands : R → Record → Record → Type 0) → (is_kept : R → Type 0) → (failed : R → ℕ) → (fates : R → ℕ → Fate) → (has_applied : List (List ℕ) → List Value → A → Type 0) → Application → List Happens → (old new : World R A) → WorldFault → Type 0
RanUntil {R} {A} stands is_kept failed fates has_applied app events old new (fault.Memory done) =
    (done ≤ length events) × (last : World R A) × Ran stands is_kept failed fates has_applied app (take done events) old last × IsUnmoved stands is_kept has_applied last new
RanUntil stands is_kept failed fates has_applied app events old new fault.Member = new ≡ old
RanUntil stands is_kept failed fates has_applied app events old new fault.Store =
    (done : ℕ) × (done ≤ length events) × Ran stands is_kept failed fates has_applied app (take done events) old new × OneStopped new

-- Some of the events have happened, as the fault says: as many as it counts; none; some, in the last of which a store failed and stopped
-- its member.
abbrev pub HasDone : {R A : Type 0} → (stands : R → Record → Record → Type 0) → (is_kept : R → Type 0) → (has_applied : List (List ℕ) → List Value → A → Type 0) → Application → (old new : World R A) → List Happens → WorldFault → Type 0
HasDone stands is_kept has_applied app old new events (fault.Memory done) = (done ≤ length events) × LeadsTo stands is_kept has_applied app old new (take done events)
HasDone stands is_kept has_applied app old new events fault.Member = new ≡ old
HasDone stands is_kept has_applied app old new events fault.Store = (done : ℕ) × (done ≤ length events) × LeadsTo stands is_kept has_applied app old new (take done events) × OneStopped new

-- the node that runs at the seat of a number
abbrev pub node_at : {R A : Type 0} → List (Seat R A) → (number : ℕ) → Option (Node R A)
node_at {R} {A} seats m = option_and_then (λ (s : Seat R A). s.node) (at seats m)

-- a node runs at each seat
abbrev pub AllRun : {R A : Type 0} → World R A → Type 0
AllRun {R} {A} w = (m : ℕ) (s : Seat R A) → at w.seats m ≡ Some s → IsSome s.node

-- each node that runs has applied all that it has learnt without a gap, whichever running member of a world it is
abbrev pub AreUpToDate : {R A : Type 0} → (has_applied : List (List ℕ) → List Value → A → Type 0) → World R A → Type 0
AreUpToDate {R} {A} has_applied w = (m : ℕ) (s : Seat R A) → at w.seats m ≡ Some s → IsUpToDate has_applied s

-- one of them has not
abbrev pub OneIsBehind : {R A : Type 0} → (has_applied : List (List ℕ) → List Value → A → Type 0) → World R A → Type 0
OneIsBehind {R} {A} has_applied w = (m : ℕ) × (s : Seat R A) × (at w.seats m ≡ Some s) × IsBehind has_applied s

-- Agreement holds for what code holds: these events have led to a world of the protocol that it shows, with all votes that were recorded
-- in them, and there each value that was told is chosen, and no position has two.
abbrev pub Agrees : {R A : Type 0} → (has_applied : List (List ℕ) → List Value → A → Type 0) → Application → World R A → List Happens → Type 0
Agrees has_applied app w events = (v : Whole) × (kept : ℕ → Record) × Run app (start w.members) events v × Shows has_applied w kept v × Agreement v

-- The straight run of n members: one begins and all is delivered, a request is submitted to it and all is delivered.
abbrev pub straight_run : (members member : ℕ) → Request → List Happens
straight_run n m q = closing n m q (n * n + n + 1)

-- the event of it before which there are so many
abbrev pub straight_event : (members member : ℕ) → Request → (before : ℕ) → Happens
straight_event n m q i =
    if i == 0 then protocol.Begin m else if nat_le i (2 * n) then protocol.Deliver i else if i == 2 * n + 1 then protocol.Submits m q else protocol.Deliver (i - 1)

-- An event more has not happened, as the fault says; or it has, and a node is short of memory then; or a store failed in it.
abbrev pub StopsAt : {R A : Type 0} → (stands : R → Record → Record → Type 0) → (is_kept : R → Type 0) → (has_applied : List (List ℕ) → List Value → A → Type 0) → Application → (old new : World R A) → Happens → (before : ℕ) → WorldFault → Type 0
StopsAt stands is_kept has_applied app old new e i (fault.Memory done) =
    (done ≡ i) × LeadsTo stands is_kept has_applied app old new [] ⊎ (done ≡ suc i) × LeadsTo stands is_kept has_applied app old new (e ∷ [])
StopsAt stands is_kept has_applied app old new e i fault.Member = ⊥
StopsAt stands is_kept has_applied app old new e i fault.Store = LeadsTo stands is_kept has_applied app old new (e ∷ []) × OneStopped new

-- The same of that event: it has not happened, and nothing has changed; or it has, and a node is short of memory then; or a store failed in it.
abbrev pub StoppedAt : {R A : Type 0} → (stands : R → Record → Record → Type 0) → (is_kept : R → Type 0) → (failed : R → ℕ) → (fates : R → ℕ → Fate) → (has_applied : List (List ℕ) → List Value → A → Type 0) → Application → Happens → (before : ℕ) → (old new : World R A) → WorldFault → Type 0
StoppedAt stands is_kept failed fates has_applied app e i old new (fault.Memory done) =
    (done ≡ i) × IsUnmoved stands is_kept has_applied old new ⊎ (done ≡ suc i) × HasHappened stands is_kept failed fates has_applied app e old new
StoppedAt stands is_kept failed fates has_applied app e i old new fault.Member = ⊥
StoppedAt stands is_kept failed fates has_applied app e i old new fault.Store = HasHappened stands is_kept failed fates has_applied app e old new × OneStopped new

-- What a straight run of a fresh world has led to: so many messages; each member was told the request at position 1, once, runs, and has
-- applied just that.
pub record IsStraight {R A : Type 0} (has_applied : List (List ℕ) → List Value → A → Type 0) (w : World R A) (request : Request) (messages : ℕ) : Type 0 where
  pub sent : length w.sent ≡ messages
  pub told : w.told ≡ map (λ m. told_to m (pair_of 1 (Of request))) (up_to w.members)
  pub size : length w.seats ≡ w.members
  pub applied : (m : ℕ) (s : Seat R A) → at w.seats m ≡ Some s → (x : Node R A) × (s.node ≡ Some x) × (u : Running) × RunsAs has_applied u x × (u.applied ≡ 1)
