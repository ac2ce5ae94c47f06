-- What sits at a member's place, and how it moves.
use Rattle.std.specs.Prelude.{◌≡◌, ◌⊎◌, ℕ, suc, Bool, false, if◌then◌else◌, List, [], map, Option, Some, None, IsSome}
use Rattle.std.specs.Option.{option_and_then, option_map, option_map_or}
use Rattle.ballots.specs.Messages.{Packet}
use Rattle.ballots.specs.declared.value.Pair.{Pair}
use Rattle.records.specs.Law.{Fate, Grew, passing}
use Rattle.ballots.specs.Terms.{Setup}
use Rattle.ballots.specs.declared.value.Value.{Value}
use Rattle.member.specs.Drafts.{IsReady}
use Rattle.member.specs.Steps.{Input, Hears, effect_of}
use Rattle.node.specs.Nodes.{IsDrafted, IsForClients, Node, RunsAs, posted, IsSpent}
use Rattle.node.specs.declared.draft.Draft.{Draft}
use Rattle.node.specs.declared.outbox.Outbox.{Outbox}
use Rattle.paxos.specs.Lists.{at}
use Rattle.paxos.specs.Application.{Application}
use Rattle.paxos.specs.Knowledge.{news, prefix}
use Rattle.paxos.specs.Records.{Record, Write, Nothing, writes, written}
use Rattle.paxos.specs.Step.{Running, Effect, quiet, resumed}
use Rattle.paxos.specs.WellFormed.{IsMessage, IsRecord}
use Rattle.paxos.specs.World.{Member as Part, Choice, applies, keeps_in, settles, stops_in}
use Rattle.world.specs.Posts.{packet_in}
use Rattle.world.specs.declared.seat.Seat.{Seat}

-- The node that sits there, if one does, was set up so, and has not stopped by itself; and what it left was.
pub record IsSeat {R A : Type 0} (t : Setup) (s : Seat R A) : Type 0 where
  pub running : (x : Node R A) → s.node ≡ Some x → (x.setup ≡ t) × (x.member.acceptor.is_stopped ≡ false)
  pub stopped : (p : Setup × R) → s.left ≡ Some p → p.0 ≡ t

-- The records of a running member, or of a stopped one, are kept.
pub record IsKeptAt {R A : Type 0} (is_kept : R → Type 0) (s : Seat R A) : Type 0 where
  pub running : (x : Node R A) → s.node ≡ Some x → is_kept x.member.acceptor.records
  pub stopped : (p : Setup × R) → s.node ≡ None → s.left ≡ Some p → is_kept p.1

-- What a member has kept is this record; where it is stopped, and its store failed before, this record or that one.
pub record Stands {R A : Type 0} (stands : R → Record → Record → Type 0) (s : Seat R A) (a b : Record) : Type 0 where
  pub running : (x : Node R A) → s.node ≡ Some x → (a ≡ x.member.acceptor.kept) × (b ≡ x.member.acceptor.kept)
  pub stopped : s.node ≡ None → (p : Setup × R) × (s.left ≡ Some p) × stands p.1 a b

-- A member of the protocol's world is the node that sits there.
pub record IsPart {R A : Type 0} (has_applied : List (List ℕ) → List Value → A → Type 0) (s : Seat R A) (kept : Record) (y : Part) : Type 0 where
  pub kept_is : y.kept ≡ kept
  pub running : (x : Node R A) → s.node ≡ Some x → (u : Running) × (y.running ≡ Some u) × RunsAs has_applied u x × (kept ≡ x.member.acceptor.kept)
  pub stopped : s.node ≡ None → y.running ≡ None

-- the node that sits there, if one does, has applied all that it has learnt without a gap, whichever running member of a world it is
abbrev pub IsUpToDate : {R A : Type 0} → (has_applied : List (List ℕ) → List Value → A → Type 0) → Seat R A → Type 0
IsUpToDate {R} {A} has_applied s = (x : Node R A) (u : Running) → s.node ≡ Some x → RunsAs has_applied u x → u.applied ≡ prefix x.setup.members (news u.heard)

-- one sits there that has not
abbrev pub IsBehind : {R A : Type 0} → (has_applied : List (List ℕ) → List Value → A → Type 0) → Seat R A → Type 0
IsBehind {R} {A} has_applied s = (x : Node R A) × (s.node ≡ Some x) × ((u : Running) → RunsAs has_applied u x → u.applied ≡ prefix x.setup.members (news u.heard) → ⊥)

-- the store at a seat: that of the node that runs there, or the one that was left
abbrev pub store_in : {R A : Type 0} → Seat R A → Option R
store_in {R} s = elim s.node as (λ o. Option R) [
  | Some x ↦ Some x.member.acceptor.records
  | None ↦ option_map (λ (p : Setup × R). p.1) s.left
]

-- how often a store has failed, and what is known of its writes to come
abbrev pub failures_of : {R : Type 0} → (failed : R → ℕ) → Option R → ℕ
failures_of failed o = option_map_or failed o 0

abbrev pub fates_of : {R : Type 0} → (fates : R → ℕ → Fate) → Option R → ℕ → Fate
fates_of {R} fates o k = option_and_then (λ (r : R). fates r k) o

-- it has failed since
abbrev pub HasFailed : {R : Type 0} → (failed : R → ℕ) → (old new : Option R) → Type 0
HasFailed failed old new = Grew (failures_of failed old) (failures_of failed new)

-- the place among the writes to come, before a step that would write this, of the one that is at place k after it
abbrev pub later : Write → ℕ → ℕ
later w k = if writes w then suc k else k

-- What a store has done in a step that would write this, and in which it fails or not: it fails only if its count of failures has
-- grown; where it is known what comes of its next write, that comes; and what is known of the writes after it is the same. A write in
-- which the member stops is cut, and let pass.
pub record Did {R : Type 0} (failed : R → ℕ) (fates : R → ℕ → Fate) (is_cut : Bool) (old new : Option R) (w : Write) (fails : Option Bool) : Type 0 where
  pub counted : (fails ≡ None) ⊎ HasFailed failed old new
  pub known : (f : Option Bool) → ((r : R) → old ≡ Some r → fates r 0 ≡ Some f) → fails ≡ (if writes w then passing is_cut f else None)
  pub rest : (k : ℕ) → fates_of fates new k ≡ fates_of fates old (later w k)

-- a member after a step with this effect
abbrev pub part_after : Part → Effect → Part
part_after y e = record { kept = written e.write y.kept; running = e.running }

-- A seat moves with an effect that may be: whichever member of the protocol's world sat there before, with a record that it may have
-- kept, takes a step with such an effect and sits there then, and just this is sent and told.
pub record Moves {R A : Type 0} (stands : R → Record → Record → Type 0) (is_kept : R → Type 0) (has_applied : List (List ℕ) → List Value → A → Type 0) (Given : Part → Type 0) (May : Part → Effect → Type 0)
    (old new : Seat R A) (sends : List Packet) (tells : List Pair) : Type 0 where
  pub kept : IsKeptAt is_kept new → IsKeptAt is_kept old
  pub changes : IsKeptAt is_kept new → (a b : Record) → Stands stands old a b
      → (c : Record) × (d : Record) × Stands stands new c d
      × ((k : Record) → (k ≡ c) ⊎ (k ≡ d) → (j : Record) × ((j ≡ a) ⊎ (j ≡ b))
      × ((y : Part) → Given y → IsPart has_applied old j y → (e : Effect) × May y e × (e.sends ≡ sends) × (e.tells ≡ tells) × IsPart has_applied new k (part_after y e)))

-- The seat's node has this draft, which is of the input and may be made; it is no ballot that cannot begin.
pub record IsPlanned {R A : Type 0} (has_applied : List (List ℕ) → List Value → A → Type 0) (app : Application) (s : Seat R A) (i : Input) (d : Draft) : Type 0 where
  pub node : Node R A
  pub there : s.node ≡ Some node
  pub drafted : IsDrafted has_applied app i node d
  pub due : (u : Running) → RunsAs has_applied u node → IsSpent node u i → ⊥

-- It may come to the node: a message that may be sent to it, and is for members; or a tick.
abbrev pub MayBeHeard : {R A : Type 0} → Node R A → Input → Type 0
MayBeHeard x (Hears k) = IsMessage x.setup.members k × (IsForClients k.body → ⊥)
MayBeHeard x i = Unit {0}

-- Nothing comes of the input: the seat is empty, or it may not come to the node, or its node cannot begin a ballot.
abbrev pub Skips : {R A : Type 0} → (has_applied : List (List ℕ) → List Value → A → Type 0) → Seat R A → Input → Type 0
Skips {R} {A} has_applied s i = (x : Node R A) → s.node ≡ Some x → (MayBeHeard x i → ⊥) ⊎ ((u : Running) → RunsAs has_applied u x → IsSpent x u i)

-- A node runs at the seat, and it may make the draft.
pub record MayMake {R A : Type 0} (s : Seat R A) (d : Draft) : Type 0 where
  pub there : IsSome s.node
  pub ready : (x : Node R A) → s.node ≡ Some x → IsReady x.member d.member

-- so at the place of a number
abbrev pub IsPlannedAt : {R A : Type 0} → (has_applied : List (List ℕ) → List Value → A → Type 0) → Application → List (Seat R A) → (number : ℕ) → Input → Draft → Type 0
IsPlannedAt {R} {A} has_applied app seats m i d = (s : Seat R A) × (at seats m ≡ Some s) × IsPlanned has_applied app s i d

abbrev pub SkipsAt : {R A : Type 0} → (has_applied : List (List ℕ) → List Value → A → Type 0) → List (Seat R A) → (number : ℕ) → Input → Type 0
SkipsAt {R} {A} has_applied seats m i = (s : Seat R A) × (at seats m ≡ Some s) × Skips has_applied s i

-- any member of the protocol's world
abbrev pub IsAny : Part → Type 0
IsAny y = Unit {0}

-- one whose record is well formed
abbrev pub IsFit : (members : ℕ) → Part → Type 0
IsFit n y = IsRecord n y.kept

-- nothing happens
abbrev pub MayStay : Part → Effect → Type 0
MayStay y e = e ≡ record { write = Nothing; running = y.running; sends = []; tells = [] }

-- a step of one of n members, whatever it leaves open, where its store does so with what it writes
abbrev pub MayStep : (Does : Write → Option Bool → Type 0) → Application → (members self : ℕ) → Input → Part → Effect → Type 0
MayStep Does app n m i y e = (u : Running) × (y.running ≡ Some u) × (c : Choice) × Does (effect_of app n m y.kept u i).write c.fails × (e ≡ settles n c (effect_of app n m y.kept u i))

-- a stop in the write of a step
abbrev pub MayStopIn : (Does : Write → Option Bool → Type 0) → Application → (members self : ℕ) → Input → (kept : Bool) → Part → Effect → Type 0
MayStopIn Does app n m i kept y e =
    (u : Running) × (y.running ≡ Some u) × (fails : Option Bool) × Does (effect_of app n m y.kept u i).write fails × (e ≡ stops_in (keeps_in fails kept) (effect_of app n m y.kept u i))

-- a stop
abbrev pub MayStop : Part → Effect → Type 0
MayStop y e = (u : Running) × (y.running ≡ Some u) × (e ≡ stops_in false (quiet u))

-- a start of one of n members, which applies so much of what its record keeps, or the store has failed to give the record
abbrev pub MayStart : (Does : Write → Option Bool → Type 0) → (members self : ℕ) → Part → Effect → Type 0
MayStart Does n m y e = (y.running ≡ None) × (((k : ℕ) × Does Nothing None × (e ≡ applies n k (quiet (resumed m y.kept)))) ⊎ Does Nothing (Some false) × MayStay y e)

-- what is sent where a step was made: what the bytes say to their targets
abbrev pub sent_by : (group members self : ℕ) → Option Outbox → List Packet
sent_by g n m None = []
sent_by g n m (Some o) = map (packet_in g) (posted n m o.sent.items)

-- what is told then
abbrev pub told_by : Option Outbox → List Pair
told_by None = []
told_by (Some o) = o.tells.items
