-- What a node is, when it is one of a world, and when it has taken a step of the protocol: from received bytes to sent bytes.
use Rattle.std.specs.Prelude.{◌≡◌, ◌<◌, ◌≤◌, ◌⊎◌, ℕ, Bool, not, ◌==◌, true, false, List, [], ◌∷◌, map, filter, flat_map, length, Some, None, Result, Ok, Err}
use Rattle.acceptor.specs.Steps.{IsAsWas, Stopped}
use Rattle.ballots.specs.Messages.{Body, Reply, Answer, Behind, Elsewhere, Packet, body_of, packet, up_to}
use Rattle.ballots.specs.Replies.{answered}
use Rattle.ballots.specs.Terms.{Setup}
use Rattle.ballots.specs.declared.value.Value.{Value}
use Rattle.member.specs.Steps.{Input, Begins, IsThis, MayCome, Member, all_packets, effect_of}
use Rattle.member.specs.Drafts.{IsReady, Plans}
use Rattle.member.specs.declared.draft.Draft.{Draft as MemberDraft}
use Rattle.member.specs.declared.fault.MemberFault.{MemberFault}
use Rattle.member.specs.declared.fault.MemberFault.TheVariants as of_member
use Rattle.member.specs.declared.outcome.Send.{Send}
use Rattle.member.specs.declared.outcome.Target.{Target}
use Rattle.member.specs.declared.outcome.Target.TheVariants as target
use Rattle.messages.specs.Reading.{Gives, datagram_read}
use Rattle.messages.specs.Spelling.{AreInRange, Datagram, Fits, HasFields, spelling}
use Rattle.node.specs.declared.draft.Draft.{Draft}
use Rattle.node.specs.declared.fault.NodeFault.{NodeFault}
use Rattle.node.specs.declared.fault.NodeFault.TheVariants.{Memory, Spent, Store, Stranger, Wire}
use Rattle.node.specs.declared.fault.OpenFault.{OpenFault}
use Rattle.node.specs.declared.fault.OpenFault.TheVariants as opening
use Rattle.node.specs.declared.outbox.Outbox.{Outbox}
use Rattle.node.specs.declared.outbox.Reading.{Reading}
use Rattle.node.specs.declared.outbox.Reading.TheVariants as reading
use Rattle.records.specs.declared.records.RecordsFault.{RecordsFault}
use Rattle.records.specs.declared.records.RecordsFault.TheVariants as records
use Rattle.node.specs.declared.outbox.Sent.{Sent}
use Rattle.paxos.specs.Application.{Application}
use Rattle.paxos.specs.Knowledge.{news, prefix}
use Rattle.paxos.specs.Lists.{Has}
use Rattle.paxos.specs.Records.{Record, Write, written}
use Rattle.paxos.specs.Step.{Effect, Running, may_begin, resumed, values_of}
use Rattle.paxos.specs.WellFormed.{IsMessage}
use Rattle.paxos.specs.World.{applies_to, settles}

-- what it was told when it was set up, its parts of the protocol, and the application
pub record Node (R A : Type 0) : Type 0 where
  pub setup : Setup
  pub member : Member R
  pub application : A

-- A running member of the protocol's world is this node: its parts know what it heard since its start and what it leads, and its application
-- has applied the first values that it has learnt, in the order of their positions, none skipped.
pub record RunsAs {R A : Type 0} (has_applied : List (List ℕ) → List Value → A → Type 0) (u : Running) (x : Node R A) : Type 0 where
  pub this : IsThis u x.member
  pub most : u.applied ≤ prefix x.setup.members (news u.heard)
  pub applied : has_applied x.setup.names (values_of x.setup.members u) x.application

-- It has started from its record: it has heard nothing but what that keeps as learnt, and has applied the first so many of these values; fewer
-- than all of them exactly where it says that it stopped short.
pub record HasStarted {R A : Type 0} (has_applied : List (List ℕ) → List Value → A → Type 0) (x : Node R A) (is_short : Bool) : Type 0 where
  pub applied : ℕ
  pub runs_as : RunsAs has_applied (applies_to x.setup.members applied (resumed x.setup.member x.member.acceptor.kept)) x
  pub whole : is_short ≡ false → applied ≡ length x.member.acceptor.kept.learnt
  pub short : is_short ≡ true → applied < length x.member.acceptor.kept.learnt

-- a message as one of a group
abbrev pub datagram : (group : ℕ) → Packet → Datagram
datagram g k = record { group = g; sender = k.sender; body = k.body }

-- a message as its group spells it, and its target, 0 for the client
abbrev pub spelt : (group : ℕ) → Packet → List ℕ × ℕ
spelt g k = (spelling (datagram g k), k.target)

-- its bytes read as that very message, and nothing is left over
abbrev pub ReadsBack : (group : ℕ) → Packet → Type 0
ReadsBack g k = datagram_read (spelling (datagram g k)) ≡ Gives (datagram g k) []

-- whom that names, of n members, where member m sends
abbrev pub targets : (members self : ℕ) → Target → List ℕ
targets n m (target.One k) = k ∷ []
targets n m target.All = up_to n
targets n m target.Others = filter (λ k. not (k == m)) (up_to n)
targets n m target.Client = 0 ∷ []

-- the bytes for each of their targets
abbrev pub posted : (members self : ℕ) → List Sent → List (List ℕ × ℕ)
posted n m sent = flat_map (λ (s : Sent). map (λ k. (s.bytes.items, k)) (targets n m s.to)) sent

-- The node has taken a step: its record is written, it runs on as the step says, it sends just the spellings of the step's messages, each to
-- its target, which read as these messages, and is told what the step tells. It says that it stopped short exactly where less is applied than is
-- learnt without a gap.
pub record Took {R A : Type 0} (has_applied : List (List ℕ) → List Value → A → Type 0) (e : Effect) (old new : Node R A) (o : Outbox) : Type 0 where
  pub setup : new.setup ≡ old.setup
  pub record_is : new.member.acceptor.kept ≡ written e.write old.member.acceptor.kept
  pub running : Running
  pub runs : e.running ≡ Some running
  pub runs_as : RunsAs has_applied running new
  pub sends : map (spelt old.setup.group) e.sends ≡ posted old.setup.members old.setup.member o.sent.items
  pub reads : (k : Packet) → Has e.sends k → ReadsBack old.setup.group k
  pub tells : e.tells ≡ o.tells.items
  pub whole : o.is_short ≡ false → running.applied ≡ prefix old.setup.members (news running.heard)
  pub short : o.is_short ≡ true → running.applied < prefix old.setup.members (news running.heard)

-- the step of an input, in which its store does not fail and so much is applied
abbrev pub step_of : {R A : Type 0} → Application → Node R A → Running → Input → (applied : ℕ) → Effect
step_of app x u i j = settles x.setup.members (record { fails = None; applied = j }) (effect_of app x.setup.members x.setup.member x.member.acceptor.kept u i)

-- Upon an input it has taken a step, whichever running member of a world it is.
abbrev pub Steps : {R A : Type 0} → (has_applied : List (List ℕ) → List Value → A → Type 0) → Application → Input → (old new : Node R A) → Outbox → Type 0
Steps has_applied app i old new o = (u : Running) → RunsAs has_applied u old → (j : ℕ) × Took has_applied (step_of app old u i j) old new o

-- no ballot begins: positions or rounds are spent
abbrev pub IsSpent : {R A : Type 0} → Node R A → Running → Input → Type 0
IsSpent x u Begins = may_begin x.setup.members x.member.acceptor.kept u ≡ false
IsSpent x u i = ⊥

-- why a node refuses where its member does
abbrev pub fault_of : MemberFault → NodeFault
fault_of of_member.Memory = Memory
fault_of of_member.Spent = Spent

-- what each message says is so
abbrev pub AreAll : (Body → Type 0) → List Send → Type 0
AreAll P [] = Unit {0}
AreAll P (s ∷ ss) = P (body_of s.message) × AreAll P ss

-- what it says has its fields, where its numbers are in range
abbrev pub HasFieldsInRange : Body → Type 0
HasFieldsInRange body = AreInRange body → HasFields body

-- Its member's draft plans the step of an input, whichever running member of a world this is, and what it sends can be spelt.
pub record IsPlanned {R A : Type 0} (has_applied : List (List ℕ) → List Value → A → Type 0) (app : Application) (i : Input) (x : Node R A) (d : MemberDraft) : Type 0 where
  pub comes : MayCome x.setup.members i
  pub ready : IsReady x.member d
  pub plans : (u : Running) → RunsAs has_applied u x → Plans (effect_of app x.setup.members x.setup.member x.member.acceptor.kept u i) x.member d
  pub fits : AreAll Fits d.sends.items
  pub ranges : (u : Running) → RunsAs has_applied u x → AreAll AreInRange d.sends.items

-- Nothing has changed but room, whichever running member of a world it is.
pub record HasStayed {R A : Type 0} (has_applied : List (List ℕ) → List Value → A → Type 0) (old new : Node R A) : Type 0 where
  pub setup : new.setup ≡ old.setup
  pub application : new.application ≡ old.application
  pub acceptor : new.member.acceptor ≡ old.member.acceptor
  pub runs_as : (u : Running) → RunsAs has_applied u old → RunsAs has_applied u new

-- A draft is what comes of an input: it plans the step, whichever running member of a world this is, and its bytes are the spellings of what
-- the member is to send, which read as that.
pub record IsDrafted {R A : Type 0} (has_applied : List (List ℕ) → List Value → A → Type 0) (app : Application) (i : Input) (x : Node R A) (d : Draft) : Type 0 where
  pub comes : MayCome x.setup.members i
  pub ready : IsReady x.member d.member
  pub plans : (u : Running) → RunsAs has_applied u x → Plans (effect_of app x.setup.members x.setup.member x.member.acceptor.kept u i) x.member d.member
  pub sends : posted x.setup.members x.setup.member d.sent.items ≡ map (spelt x.setup.group) (all_packets x.setup.members x.setup.member d.member.sends.items)
  pub reads : (u : Running) → RunsAs has_applied u x → (k : Packet) → Has (all_packets x.setup.members x.setup.member d.member.sends.items) k → IsMessage x.setup.members k → ReadsBack x.setup.group k

-- a message that goes to clients
abbrev pub IsForClients : Body → Type 0
IsForClients (Reply client number reply) = Unit {0}
IsForClients (Answer client number applied answer) = Unit {0}
IsForClients (Behind client number applied) = Unit {0}
IsForClients (Elsewhere client number member) = Unit {0}
IsForClients body = ⊥

-- the bytes spell a message of the group to this node, and read as it
pub record IsFrom (s : Setup) (bytes : List ℕ) (k : Packet) : Type 0 where
  pub spelt_so : bytes ≡ spelling (datagram s.group k)
  pub reads_so : datagram_read bytes ≡ Gives (datagram s.group k) []
  pub target : k.target ≡ s.member
  pub may_be_sent : IsMessage s.members k
  pub for_members : IsForClients k.body → ⊥

-- It is of another group, from or about a member that there is not, or of a kind that goes to clients.
abbrev pub IsStrange : Setup → Datagram → Type 0
IsStrange s d = (d.group ≡ s.group → ⊥) ⊎ IsForClients d.body ⊎ (IsMessage s.members (packet d.sender d.body s.member) → ⊥)

-- Nothing that shows has changed.
pub record IsUnchanged {R A : Type 0} (has_applied : List (List ℕ) → List Value → A → Type 0) (failed : R → ℕ) (old new : Node R A) : Type 0 where
  pub setup : new.setup ≡ old.setup
  pub acceptor : IsAsWas failed old.member.acceptor new.member.acceptor
  pub runs_as : (u : Running) → RunsAs has_applied u old → RunsAs has_applied u new

-- Its store has failed in this call, and it has stopped: a crash leaves the old record or the one with the write of the step.
abbrev pub HasFailed : {R A : Type 0} → (stands : R → Record → Record → Type 0) → (is_kept : R → Type 0) → (failed : R → ℕ) → (has_applied : List (List ℕ) → List Value → A → Type 0)
    → Application → Input → (old new : Node R A) → Type 0
HasFailed stands is_kept failed has_applied app i old new = (write : Write) × Stopped stands is_kept failed old.member.acceptor new.member.acceptor write
    × ((u : Running) → RunsAs has_applied u old → write ≡ (effect_of app old.setup.members old.setup.member old.member.acceptor.kept u i).write)

-- a fault that a tick may have: no message comes with it
abbrev pub IsOfTick : NodeFault → Type 0
IsOfTick (Wire f) = ⊥
IsOfTick Stranger = ⊥
IsOfTick fault = Unit {0}

-- how its write went, where it made one: its store failed, or memory was refused
abbrev pub of_records : {T : Type 0} → Result T NodeFault → Result T RecordsFault
of_records (Ok t) = Ok t
of_records (Err Store) = Err records.Store
of_records (Err fault) = Err records.Memory

-- why records were refused, where a node does not open
abbrev pub records_fault : OpenFault → RecordsFault
records_fault opening.Memory = records.Memory
records_fault opening.Store = records.Store

-- What a question reads where this is applied: that fewer positions are than the floor, or the answer.
abbrev pub Reads : Application → (members : ℕ) → Running → (floor level : ℕ) → (text : List ℕ) → Reading → Type 0
Reads app n u floor level text (reading.At applied answer) = (applied ≡ u.applied) × (floor ≤ applied) × (answered answer ≡ app.answer (values_of n u) level text)
Reads app n u floor level text (reading.Behind applied) = (applied ≡ u.applied) × (applied < floor)
