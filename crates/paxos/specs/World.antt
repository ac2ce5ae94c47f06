-- All members, every message ever sent, every vote ever recorded and every value ever told; and what each event does to them.
use Rattle.std.specs.Prelude.{◌≡◌, ℕ, ◌&&◌, Bool, false, nat_le, if◌then◌else◌, List, [], ◌∷◌, ◌++◌, map, length, replicate, Option, Some, None, option_map}
use Rattle.paxos.specs.Lists.{at, put}
use Rattle.ballots.specs.Terms.{Request, Question}
use Rattle.ballots.specs.declared.value.Entry.{Entry}
use Rattle.ballots.specs.declared.value.Pair.{Pair}
use Rattle.ballots.specs.Messages.{Body, Submit, Ask, Packet, packet}
use Rattle.paxos.specs.Application.{Application}
use Rattle.paxos.specs.Records.{Record, empty_record, Write, Nothing, NewPromise, NewVote, NewLearnt, writes, written}
use Rattle.paxos.specs.Knowledge.{prefix, news}
use Rattle.paxos.specs.Step.{Running, Effect, quiet, on_message, may_begin, begins, on_begin, on_resend, on_catch_up_tick, on_keep, resumed}

-- a member's record, and what it has while it runs; members and messages are numbered from 1
pub record Member : Type 0 where
  pub kept : Record
  pub running : Option Running

-- a vote that a member recorded
pub record Cast : Type 0 where
  pub member : ℕ
  pub entry : Entry

-- a value that a member was told
pub record Told : Type 0 where
  pub member : ℕ
  pub pair : Pair

-- of the members each its record and how it runs; all messages in the order of their numbers; all votes; all that was told
pub record World : Type 0 where
  pub members : List Member
  pub sent : List Packet
  pub votes : List Cast
  pub told : List Told

-- a start where nothing was kept
abbrev pub started : Running
started = record { heard = []; leader = None; applied = 0 }

-- a member that never did anything
abbrev pub fresh : Member
fresh = record { kept = empty_record; running = Some started }

-- n members that never did anything
abbrev pub start : (members : ℕ) → World
start n = record { members = replicate n fresh; sent = []; votes = []; told = [] }

-- A message is delivered, lost and delivered again, in any order: each stays deliverable for good, by its number.
pub data Event : Type 0 where
  Deliver : (number : ℕ) → Event
  Begin : (member : ℕ) → Event
  Resend : (member : ℕ) → Event
  CatchUp : (member : ℕ) → Event
  Keep : (member : ℕ) → Event
  Submits : (member : ℕ) (request : Request) → Event
  Asks : (member : ℕ) (question : Question) → Event
  StopInDeliver : (number : ℕ) (kept : Bool) → Event
  StopInBegin : (member : ℕ) (kept : Bool) → Event
  StopInKeep : (member : ℕ) (kept : Bool) → Event
  Stop : (member : ℕ) → Event
  Start : (member : ℕ) → Event

-- What an event leaves open: whether the store fails, and whether it then keeps what is written (at a start it fails to give the
-- record); how many positions are applied then.
pub record Choice : Type 0 where
  pub fails : Option Bool
  pub applied : ℕ

-- the vote, as the member's
abbrev pub cast_by : (member : ℕ) → Entry → Cast
cast_by m e = record { member = m; entry = e }

-- the value, as told to the member
abbrev pub told_to : (member : ℕ) → Pair → Told
told_to m e = record { member = m; pair = e }

-- the votes that a write records
abbrev pub casts : Write → List Entry
casts Nothing = []
casts (NewPromise b) = []
casts (NewVote p vote) = record { position = p; vote = vote } ∷ []
casts (NewLearnt value) = []

-- the world after member m, which kept r, takes a step with this effect
abbrev pub after : World → (member : ℕ) → Record → Effect → World
after w m r e = record {
  members = put w.members m (record { kept = written e.write r; running = e.running });
  sent = w.sent ++ e.sends;
  votes = w.votes ++ map (cast_by m) (casts e.write);
  told = w.told ++ map (told_to m) e.tells;
}

-- a stop, with or without what a step writes; nothing is sent or told
abbrev pub stops_in : (kept : Bool) → Effect → Effect
stops_in kept e = record { write = if kept then e.write else Nothing; running = None; sends = []; tells = [] }

-- what a stop inside a write keeps: what the event says, unless the store fails then, which may leave either
abbrev pub keeps_in : (fails : Option Bool) → (kept : Bool) → Bool
keeps_in None kept = kept
keeps_in (Some left) kept = left

-- a store that fails in a step that writes stops the member
abbrev pub may_fail : Option Bool → Effect → Effect
may_fail None e = e
may_fail (Some kept) e = if writes e.write then stops_in kept e else e

-- Learnt positions are applied in order up to the number chosen, if that many are learnt without a gap and no more were applied
-- before; otherwise none are.
abbrev pub applies_to : (members : ℕ) → ℕ → Running → Running
applies_to n k u = record {
  heard = u.heard;
  leader = u.leader;
  applied = if nat_le u.applied k && nat_le k (prefix n (news u.heard)) then k else u.applied;
}

-- the same after a step
abbrev pub applies : (members : ℕ) → ℕ → Effect → Effect
applies n k e = record { write = e.write; running = option_map (applies_to n k) e.running; sends = e.sends; tells = e.tells }

-- a step with what is left open
abbrev pub settles : (members : ℕ) → Choice → Effect → Effect
settles n c e = applies n c.applied (may_fail c.fails e)

-- a member that isn't there, or isn't running, takes no step
abbrev pub runs : World → (member : ℕ) → Record → (Record → Running → Effect) → Option Running → World
runs w m r step None = w
runs w m r step (Some u) = after w m r (step r u)

-- a member that is there takes its step if it runs
abbrev pub takes : World → (member : ℕ) → (Record → Running → Effect) → Option Member → World
takes w m step None = w
takes w m step (Some x) = runs w m x.kept step x.running

-- the member of that number takes its step
abbrev pub acts : World → (member : ℕ) → (Record → Running → Effect) → World
acts w m step = takes w m step (at w.members m)

-- the target's step when the message comes, with this done to its effect
abbrev pub delivers : Application → World → (Effect → Effect) → Option Packet → World
delivers app w how None = w
delivers app w how (Some k) = acts w k.target (λ r u. how (on_message app (length w.members) k.target k r u))

-- a refused Begin changes nothing
abbrev pub begins_in : World → Choice → (member : ℕ) → Record → Running → Effect
begins_in w c m r u =
    if may_begin (length w.members) r u then settles (length w.members) c (begins (length w.members) m r u) else quiet u

-- a client's message to a member that is there
abbrev pub asks : World → (member : ℕ) → Body → Option Member → World
asks w m body None = w
asks w m body (Some x) = record { members = w.members; sent = w.sent ++ packet 0 body m ∷ []; votes = w.votes; told = w.told }

-- a stopped member starts and applies of what it kept, unless its store fails to give the record
abbrev pub restarts : World → (fails : Option Bool) → (applied : ℕ) → (member : ℕ) → Record → Option Running → World
restarts w fails k m r (Some u) = w
restarts w (Some kept) k m r None = w
restarts w None k m r None = after w m r (applies (length w.members) k (quiet (resumed m r)))

-- a member that is there starts if it is stopped
abbrev pub starts : World → Choice → (member : ℕ) → Option Member → World
starts w c m None = w
starts w c m (Some x) = restarts w c.fails c.applied m x.kept x.running

-- what an event does, with what it leaves open
abbrev pub happens : Application → World → Choice → Event → World
happens app w c (Deliver k) = delivers app w (settles (length w.members) c) (at w.sent k)
happens app w c (Begin m) = acts w m (begins_in w c m)
happens app w c (Resend m) = acts w m (λ r u. settles (length w.members) c (on_resend (length w.members) m u))
happens app w c (CatchUp m) = acts w m (λ r u. settles (length w.members) c (on_catch_up_tick (length w.members) m u))
happens app w c (Keep m) = acts w m (λ r u. settles (length w.members) c (on_keep (length w.members) r u))
happens app w c (Submits m q) = asks w m (Submit q) (at w.members m)
happens app w c (Asks m q) = asks w m (Ask q) (at w.members m)
happens app w c (StopInDeliver k kept) = delivers app w (stops_in (keeps_in c.fails kept)) (at w.sent k)
happens app w c (StopInBegin m kept) = acts w m (λ r u. stops_in (keeps_in c.fails kept) (on_begin (length w.members) m r u))
happens app w c (StopInKeep m kept) = acts w m (λ r u. stops_in (keeps_in c.fails kept) (on_keep (length w.members) r u))
happens app w c (Stop m) = acts w m (λ r u. stops_in false (quiet u))
happens app w c (Start m) = starts w c m (at w.members m)

-- an event with what it left open
pub record Happening : Type 0 where
  pub event : Event
  pub choice : Choice

-- the world that a list of events leads to
abbrev pub run : Application → World → List Happening → World
run app w [] = w
run app w (h ∷ hs) = run app (happens app w h.choice h.event) hs

-- the worlds that the events may lead to, whatever they leave open
abbrev pub Run : Application → World → List Event → World → Type 0
Run app w events end = (hs : List Happening) × (map (λ (h : Happening). h.event) hs ≡ events) × (run app w hs ≡ end)
