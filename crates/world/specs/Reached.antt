-- Which lists of events lead to what code holds.
use Rattle.std.specs.Prelude.{◌≡◌, ℕ, Bool, true, false, List, Option, Some, None, length}
use Rattle.std.specs.Option.{option_and_then}
use Rattle.records.specs.Law.{Fate}
use Rattle.ballots.specs.Messages.{Packet}
use Rattle.ballots.specs.declared.value.Value.{Value}
use Rattle.member.specs.declared.input.Tick.{Tick}
use Rattle.member.specs.declared.input.Tick.TheVariants as tick
use Rattle.paxos.specs.Lists.{at}
use Rattle.paxos.specs.Step.{Running, Effect, on_begin, on_keep, on_message}
use Rattle.paxos.specs.Application.{Application}
use Rattle.paxos.specs.Records.{Record, Write, Nothing}
use Rattle.paxos.specs.Sound.{Sound}
use Rattle.paxos.specs.World as protocol
use Rattle.paxos.specs.World.{World as Whole, Member as Part, Event as Happens, Run, after, start}
use Rattle.paxos.specs.Smooth.{SmoothRun}
use Rattle.world.specs.Seats.{Did, IsPart, fates_of, store_in}
use Rattle.world.specs.declared.seat.Seat.{Seat}
use Rattle.world.specs.Shown.{World, AllStand, AreKept, Picks, Shows}

-- Runs of the protocol that are led by events have come to what code holds: for each choice of the records that stopped members may
-- find, to a world of the protocol that it shows.
pub record ReachedBy {R A : Type 0} (stands : R → Record → Record → Type 0) (has_applied : List (List ℕ) → List Value → A → Type 0) (w : World R A) (Leads : Whole → Type 0) : Type 0 where
  pub first : ℕ → Record
  pub second : ℕ → Record
  pub stand : AllStand stands w first second
  pub runs : (kept : ℕ → Record) → Picks kept first second → (v : Whole) × Leads v × Shows has_applied w kept v

-- The events have led to what code holds, whatever they left open.
abbrev pub Reached : {R A : Type 0} → (stands : R → Record → Record → Type 0) → (has_applied : List (List ℕ) → List Value → A → Type 0) → Application → World R A → List Happens → Type 0
Reached stands has_applied app w events = ReachedBy stands has_applied w (Run app (start w.members) events)

-- They have led to it, and no store has stopped a member, and each time all was applied.
abbrev pub ReachedSmoothly : {R A : Type 0} → (stands : R → Record → Record → Type 0) → (has_applied : List (List ℕ) → List Value → A → Type 0) → Application → World R A → List Happens → Type 0
ReachedSmoothly stands has_applied app w events = ReachedBy stands has_applied w (SmoothRun app w.members events)

-- A change of what code holds follows a change of the protocol's world: where the world may be that it showed, it is changed into one that
-- is shown then.
pub record Follows {R A : Type 0} (stands : R → Record → Record → Type 0) (is_kept : R → Type 0) (has_applied : List (List ℕ) → List Value → A → Type 0) (MayBe : Whole → Type 0) (Next : Whole → Whole → Type 0) (old new : World R A) : Type 0 where
  pub members : new.members ≡ old.members
  pub names : new.names ≡ old.names
  pub kept : AreKept is_kept new → AreKept is_kept old
  pub changes : AreKept is_kept new → (a b : ℕ → Record) → AllStand stands old a b
      → (c : ℕ → Record) × (d : ℕ → Record) × AllStand stands new c d
      × ((now : ℕ → Record) → Picks now c d → (before : ℕ → Record) × Picks before a b
      × ((v : Whole) → MayBe v → Shows has_applied old before v → (z : Whole) × Next v z × Shows has_applied new now z))

-- nothing happens
abbrev pub Stays : Whole → Whole → Type 0
Stays v z = z ≡ v

-- the event happens, whatever it leaves open
abbrev pub Happened : Application → Happens → Whole → Whole → Type 0
Happened app e v z = (c : protocol.Choice) × (z ≡ protocol.happens app v c e)

-- what a step writes, of a member that is there and runs
abbrev pub write_if : (Record → Running → Effect) → Record → Option Running → Write
write_if step r None = Nothing
write_if step r (Some u) = (step r u).write

abbrev pub write_at : (Record → Running → Effect) → Option Part → Write
write_at step None = Nothing
write_at step (Some x) = write_if step x.kept x.running

-- what is written where a message comes, and who writes it
abbrev pub write_upon : Application → Whole → Option Packet → Write
write_upon app w None = Nothing
write_upon app w (Some k) = write_at (on_message app (length w.members) k.target k) (at w.members k.target)

abbrev pub reader : Option Packet → ℕ
reader None = 0
reader (Some k) = k.target

-- the member that an event comes to
abbrev pub actor : Whole → Happens → ℕ
actor w (protocol.Deliver k) = reader (at w.sent k)
actor w (protocol.Begin m) = m
actor w (protocol.Resend m) = m
actor w (protocol.CatchUp m) = m
actor w (protocol.Keep m) = m
actor w (protocol.Submits m q) = m
actor w (protocol.Asks m q) = m
actor w (protocol.StopInDeliver k kept) = reader (at w.sent k)
actor w (protocol.StopInBegin m kept) = m
actor w (protocol.StopInKeep m kept) = m
actor w (protocol.Stop m) = m
actor w (protocol.Start m) = m

-- what it is to write then
abbrev pub write_in : Application → Whole → Happens → Write
write_in app w (protocol.Deliver k) = write_upon app w (at w.sent k)
write_in app w (protocol.Begin m) = write_at (on_begin (length w.members) m) (at w.members m)
write_in app w (protocol.Keep m) = write_at (on_keep (length w.members)) (at w.members m)
write_in app w (protocol.StopInDeliver k true) = write_upon app w (at w.sent k)
write_in app w (protocol.StopInBegin m true) = write_at (on_begin (length w.members) m) (at w.members m)
write_in app w (protocol.StopInKeep m true) = write_at (on_keep (length w.members)) (at w.members m)
write_in app w e = Nothing

-- whether it stops in what it writes
abbrev pub is_cut : Happens → Bool
is_cut (protocol.StopInDeliver k kept) = true
is_cut (protocol.StopInBegin m kept) = true
is_cut (protocol.StopInKeep m kept) = true
is_cut e = false

-- a tick that may write
abbrev pub MayWrite : Tick → Type 0
MayWrite tick.Begin = Unit {0}
MayWrite tick.Keep = Unit {0}
MayWrite t = ⊥

-- a stop in the write of a tick; in one that never writes it is a stop
abbrev pub stop_in : (member : ℕ) → Tick → (kept : Bool) → Happens
stop_in m tick.Begin kept = protocol.StopInBegin m kept
stop_in m tick.Keep kept = protocol.StopInKeep m kept
stop_in m t kept = protocol.Stop m

-- the event happens, where the store of the member that it comes to does so with what is written
abbrev pub HappenedIf : (Does : (member : ℕ) → Write → Option Bool → Type 0) → Application → Happens → Whole → Whole → Type 0
HappenedIf Does app e v z = (c : protocol.Choice) × Does (actor v e) (write_in app v e) c.fails × (z ≡ protocol.happens app v c e)

-- the store of a member
abbrev pub store_at : {R A : Type 0} → List (Seat R A) → (member : ℕ) → Option R
store_at {R} {A} seats m = option_and_then (λ (s : Seat R A). store_in s) (at seats m)

-- What the stores have done in an event that comes to this member: its own did so, and of the others the same is known.
pub record HaveDone {R A : Type 0} (failed : R → ℕ) (fates : R → ℕ → Fate) (cut : Bool) (old new : List (Seat R A)) (m : ℕ) (w : Write) (fails : Option Bool) : Type 0 where
  pub own : Did failed fates cut (store_at old m) (store_at new m) w fails
  pub others : (j : ℕ) → (j ≡ m → ⊥) → (k : ℕ) → fates_of fates (store_at new j) k ≡ fates_of fates (store_at old j) k

-- the event happens, and each store has done in it what was known of it before
abbrev pub HappenedOver : {R A : Type 0} → (failed : R → ℕ) → (fates : R → ℕ → Fate) → (old new : List (Seat R A)) → Application → Happens → Whole → Whole → Type 0
HappenedOver failed fates old new app e v z = HappenedIf (HaveDone failed fates (is_cut e) old new) app e v z

-- nothing that shows has changed
abbrev pub IsUnmoved : {R A : Type 0} → (stands : R → Record → Record → Type 0) → (is_kept : R → Type 0) → (has_applied : List (List ℕ) → List Value → A → Type 0) → (old new : World R A) → Type 0
IsUnmoved stands is_kept has_applied old new = Follows stands is_kept has_applied (Sound old.members) Stays old new

-- The event has happened, where the application means this; each store has done in it what was known of it.
abbrev pub HasHappened : {R A : Type 0} → (stands : R → Record → Record → Type 0) → (is_kept : R → Type 0) → (failed : R → ℕ) → (fates : R → ℕ → Fate) → (has_applied : List (List ℕ) → List Value → A → Type 0) → Application → Happens
    → (old new : World R A) → Type 0
HasHappened stands is_kept failed fates has_applied app e old new = Follows stands is_kept has_applied (Sound old.members) (HappenedOver failed fates old.seats new.seats app e) old new

-- The node that sits there takes a step with an effect that may be, in a world that is shown.
pub record Steps {R A : Type 0} (has_applied : List (List ℕ) → List Value → A → Type 0) (old : World R A) (s : Seat R A) (m : ℕ) (May : Part → Effect → Type 0) (v z : Whole) : Type 0 where
  pub size : length v.members ≡ length old.seats
  pub sent : v.sent ≡ old.sent
  pub part : Part
  pub there : at v.members m ≡ Some part
  pub kept : Record
  pub is_part : IsPart has_applied s kept part
  pub effect : Effect
  pub may : May part effect
  pub is : z ≡ after v m part.kept effect
