-- What a simulation of an event file is, and what it prints: over the protocol's world, where the stores of the members fail as the file says.
-- Nothing is left open: a file has one simulation (`simulated_once`).
use Rattle.std.specs.Prelude.{◌≡◌, ◌-◌, ◌^◌, ℕ, suc, min, Bool, not, ◌&&◌, ◌==◌, nat_eq, nat_le, nat_lt, if◌then◌else◌, List, [], ◌∷◌, ◌++◌, map, flat_map, filter, length, Option, Some, None, option_map, codes}
use Rattle.std.specs.Option.{option_and_then}
use Rattle.std.specs.List.{list_any}
use Rattle.std.specs.Fmt.{decimal}
use Rattle.records.specs.Law.{passing}
use Rattle.records.specs.Script.{fails_at}
use Rattle.ballots.specs.Messages.{up_to}
use Rattle.ballots.specs.declared.value.Value.{Value}
use Rattle.ballots.specs.declared.value.Value.TheVariants as value
use Rattle.event_files.specs.EventFiles.{EventFileTerm}
use Rattle.event_files.specs.declared.command.Command.{Command}
use Rattle.event_files.specs.declared.command.Command.TheVariants.{Happens, DeliverAll}
use Rattle.event_files.specs.declared.first.Failure.{Failure}
use Rattle.paxos.specs.Application.{Application}
use Rattle.paxos.specs.Knowledge.{news, prefix}
use Rattle.paxos.specs.Lists.{at}
use Rattle.paxos.specs.Records.{writes}
use Rattle.paxos.specs.Step.{Running}
use Rattle.paxos.specs.World.{World as Whole, Member, Told, Choice, Event as Happening, Deliver, happens, start}
use Rattle.program_reports.specs.Reports.{line_feed}
use Rattle.paxq_sim.specs.Stores.{plan_of}
use Rattle.events.specs.Events.{event_of}
use Rattle.world.specs.Reached.{actor, is_cut, write_in}
use Rattle.world.specs.Seats.{later}
use Rattle.events.specs.declared.event.Event.{Event}
use Rattle.events.specs.declared.event.Event.TheVariants as event
use Rattle.events.specs.declared.event.Step.TheVariants as step

-- ---- what happens
-- A world, and how many writes the store of each member has made, those that failed too.
pub record State : Type 0 where
  pub world : Whole
  pub written : (member : ℕ) → ℕ

-- whether the write of a member fails before which its store made so many, and then whether it is left; no number is above those of 64 bits
abbrev pub fate : List Failure → (member before : ℕ) → Option Bool
fate failures m k = fails_at (min (suc k) (2 ^ 64 - 1)) (plan_of m failures)

-- What an event leaves open is settled: where its member writes, the file says whether that fails. A write in which the member stops does not.
abbrev pub choice_in : Application → List Failure → State → Happening → Choice
choice_in app failures s e = record {
  fails = if writes (write_in app s.world e) then passing (is_cut e) (fate failures (actor s.world e) (s.written (actor s.world e))) else None;
  applied = 0;
}

-- a member that runs has applied all that it has learnt without a gap
abbrev pub with_all : (members : ℕ) → Running → Running
with_all n u = record { heard = u.heard; leader = u.leader; applied = prefix n (news u.heard) }

abbrev pub member_with_all : (members : ℕ) → Member → Member
member_with_all n x = record { kept = x.kept; running = option_map (with_all n) x.running }

-- so have all
abbrev pub all_applied : (members : ℕ) → Whole → Whole
all_applied n w = record { members = map (member_with_all n) w.members; sent = w.sent; votes = w.votes; told = w.told }

-- an event happens
abbrev pub next : Application → List Failure → State → Happening → State
next app failures s e = record {
  world = all_applied (length s.world.members) (happens app s.world (choice_in app failures s e) e);
  written = λ m. if m == actor s.world e then later (write_in app s.world e) (s.written m) else s.written m;
}

-- events happen in order
abbrev pub after_all : Application → List Failure → State → List Happening → State
after_all app failures s [] = s
after_all app failures s (e ∷ es) = after_all app failures (next app failures s e) es

-- How far a simulation is: the world with its stores, the number up to which all messages were delivered, and later numbers that lines
-- have named since those messages were sent.
pub record Progress : Type 0 where
  pub state : State
  pub delivered : ℕ
  pub named : List ℕ

-- whether a number is among some
abbrev pub is_among : List ℕ → ℕ → Bool
is_among numbers k = list_any (nat_eq k) numbers

-- whether a number is after those delivered, and was not named
abbrev pub is_undelivered : Progress → ℕ → Bool
is_undelivered p k = nat_lt p.delivered k && not (is_among p.named k)

-- the numbers after those delivered, up to the last, that were not named
abbrev pub undelivered : Progress → (last : ℕ) → List ℕ
undelivered p last = filter (is_undelivered p) (up_to last)

-- a number, if it is after those delivered and so many were sent
abbrev pub if_waiting : (delivered sent : ℕ) → ℕ → List ℕ
if_waiting delivered sent k = if nat_lt delivered k && nat_le k sent then k ∷ [] else []

-- the message that an event names, if it waits
abbrev pub named_in : (delivered sent : ℕ) → Event → List ℕ
named_in delivered sent (event.Deliver k) = if_waiting delivered sent k
named_in delivered sent (event.StopIn (step.Deliver k) kept) = if_waiting delivered sent k
named_in delivered sent e = []

-- what a line names, of the messages that were sent
abbrev pub named_by : Progress → Event → List ℕ
named_by p e = named_in p.delivered (length p.state.world.sent) e

-- how far it is after an event
abbrev pub with_event : Application → List Failure → Progress → Event → Progress
with_event app failures p e = record { state = next app failures p.state (event_of e); delivered = p.delivered; named = p.named ++ named_by p e }

-- how far it is after the deliveries up to a number
abbrev pub with_deliveries : Application → List Failure → Progress → (last : ℕ) → Progress
with_deliveries app failures p last = record { state = after_all app failures p.state (map Deliver (undelivered p last)); delivered = last; named = [] }

-- One command. That all is delivered says that the deliveries go on until no later message was sent.
abbrev pub Takes : Application → List Failure → Progress → Command → Progress → Type 0
Takes app failures p (Happens e) q = q ≡ with_event app failures p e
Takes app failures p DeliverAll q = (last : ℕ) × (q ≡ with_deliveries app failures p last) × (last ≡ length q.state.world.sent)

-- commands in order
abbrev pub Plays : Application → List Failure → Progress → List Command → Progress → Type 0
Plays app failures p [] q = q ≡ p
Plays app failures p (command ∷ commands) q = (r : Progress) × Takes app failures p command r × Plays app failures r commands q

-- nothing has happened to so many members
abbrev pub opening : (members : ℕ) → Progress
opening members = record { state = record { world = start members; written = λ m. 0 }; delivered = 0; named = [] }

-- ---- what is printed
-- `CLIENT NUMBER` of a request, or `noop`
abbrev pub request_words : (client number : ℕ) → List ℕ
request_words client number = decimal client ++ codes " " ++ decimal number

abbrev pub value_words : Value → List ℕ
value_words value.NoOp = codes "noop"
value_words (value.Request r) = request_words r.client r.number

-- `told MEMBER POSITION` and the value
abbrev pub told_line : Told → List ℕ
told_line t = codes "told " ++ decimal t.member ++ codes " " ++ decimal t.pair.position ++ codes " " ++ value_words t.pair.value ++ line_feed

-- whether the member was told of the position before
abbrev pub was_told : (earlier : List Told) → (member position : ℕ) → Bool
was_told earlier m p = list_any (λ (t : Told). (m == t.member) && (p == t.pair.position)) earlier

-- What is told for the first time, after what was told earlier. No two values are told at a position (`agreement` of the protocol), so
-- the member and the position say which is.
abbrev pub first_told : (earlier : List Told) → List Told → List Told
first_told earlier [] = []
first_told earlier (t ∷ ts) = (if was_told earlier t.member t.pair.position then [] else t ∷ []) ++ first_told (earlier ++ t ∷ []) ts

-- `messages COUNT`
abbrev pub message_line : ℕ → List ℕ
message_line count = codes "messages " ++ decimal count ++ line_feed

-- `member M applied P`, and `member M stopped`
abbrev pub applied_line : (member positions : ℕ) → List ℕ
applied_line m p = codes "member " ++ decimal m ++ codes " applied " ++ decimal p ++ line_feed

abbrev pub stopped_line : (member : ℕ) → List ℕ
stopped_line m = codes "member " ++ decimal m ++ codes " stopped" ++ line_feed

-- the line of a member that runs, or does not
abbrev pub running_line : (member : ℕ) → Option Running → List ℕ
running_line m None = stopped_line m
running_line m (Some u) = applied_line m u.applied

-- the line of the member of a number
abbrev pub member_line : Whole → (member : ℕ) → List ℕ
member_line w m = running_line m (option_and_then (λ (x : Member). x.running) (at w.members m))

-- all that is told for the first time, how many messages were sent, and how far each member is
abbrev pub report : Whole → List ℕ
report w = flat_map told_line (first_told [] w.told) ++ message_line (length w.sent) ++ flat_map (member_line w) (up_to (length w.members))

-- ---- what a simulation of an event file prints
-- where an application over documents of these names means that
abbrev pub IsSimulated : (meaning : List (List ℕ) → Application) → EventFileTerm → List ℕ → Type 0
IsSimulated meaning f text = (end : Progress) × Plays (meaning f.group.names) f.failures (opening f.group.members) f.commands end × (text ≡ report end.state.world)
