-- Runs step by step: a step in which a leader proposes is given as its world before, and the turn that proposing comes to.
use Rattle.std.proofs.Common.{◌≡◌, ℕ, ◌++◌, List, [], ◌∷◌, ap, ◌∙◌, Option, Some, None}
use Rattle.ballots.specs.declared.ballot.Ballot.{Ballot}
use Rattle.ballots.specs.declared.value.Entry.{Entry}
use Rattle.ballots.specs.declared.value.Pair.{Pair}
use Rattle.ballots.specs.Messages.{Packet, packet, Prepare, Promise, Accept, Accepted, CatchUp as CatchUpBody}
use Rattle.paxos.specs.Records.{window}
use Rattle.paxos.specs.Lists.{at}
use Rattle.paxos.specs.Proposing.{Turn}
use Rattle.paxos.specs.Step.{Leader, Running, leading}
use Rattle.paxos.specs.World.{World, Member, fresh, started, Event, Choice, after, settles, happens, run}
use Rattle.paxos.specs.Examples.{silent, smoothly, vote}

-- no store fails, and one position may be applied
abbrev pub ample : Choice
ample = record { fails = None; applied = 1 }

-- the member of a number
abbrev pub member_at : World → ℕ → Member
member_at w m = elim (at w.members m) as (λ o. Member) [ None ↦ fresh | Some x ↦ x ]

-- how it runs
abbrev pub running_at : World → ℕ → Running
running_at w m = elim (member_at w m).running as (λ o. Running) [ None ↦ started | Some u ↦ u ]

-- the message of a number
abbrev pub packet_at : World → ℕ → Packet
packet_at w k = elim (at w.sent k) as (λ o. Packet) [ None ↦ record { sender = 0; target = 0; body = CatchUpBody 0 } | Some p ↦ p ]

-- the member with a message more heard
abbrev pub hearing : World → ℕ → ℕ → Running
hearing w m k = record { heard = packet_at w k ∷ (running_at w m).heard; leader = (running_at w m).leader; applied = (running_at w m).applied }

-- member m of n leads on by a turn
abbrev pub leads_on : (n m : ℕ) → World → Running → Leader → List Pair → Turn → World
leads_on n m w u l tells t = after w m (member_at w m).kept (settles n ample (leading n m u l t [] tells))

-- one event, then others
pub step : (w v x : World) (e : Event) (es : List Event) → happens silent w ample e ≡ v → run silent v (smoothly es) ≡ x → run silent w (smoothly (e ∷ es)) ≡ x
step w v x e es h k = ap (λ (y : World). run silent y (smoothly es)) h ∙ k

-- some events, then others
pub several : (w v x : World) (es fs : List Event) → run silent w (smoothly es) ≡ v → run silent v (smoothly fs) ≡ x → run silent w (smoothly (es ++ fs)) ≡ x
several w v x [] fs h k = ap (λ (y : World). run silent y (smoothly fs)) h ∙ k
several w v x (e ∷ es) fs h k = several (happens silent w ample e) v x es fs h k

-- a running member with that record, that has heard these messages, the newest first, and applied nothing
abbrev pub member_with : Ballot → List Entry → List Packet → Option Leader → Member
member_with promise votes heard leader = record { kept = record { promise = promise; votes = votes; learnt = [] }; running = Some (record { heard = heard; leader = leader; applied = 0 }) }

-- a stopped member with that record
abbrev pub stopped_with : Ballot → List Entry → Member
stopped_with promise votes = record { kept = record { promise = promise; votes = votes; learnt = [] }; running = None }

-- the messages of a ballot: its member's Prepare to k, the Promise of k with these votes, the Accept of the request to k, the Accepted of m to k
abbrev pub prepare : Ballot → ℕ → Packet
prepare b k = packet b.member (Prepare b 1) k

abbrev pub promise : Ballot → List Entry → ℕ → Packet
promise b votes k = packet k (Promise (window b 1 votes)) b.member

abbrev pub accept : Ballot → ℕ → Packet
accept b k = packet b.member (Accept 1 (vote b)) k

abbrev pub accepted : Ballot → ℕ → ℕ → Packet
accepted b m k = packet m (Accepted 1 (vote b)) k

-- the vote for the request at 1
abbrev pub entry : Ballot → Entry
entry b = record { position = 1; vote = vote b }
