-- The data of the worked examples.
use Rattle.std.specs.Prelude.{ℕ, zero, suc, ◌+◌, ◌*◌, Bool, List, [], ◌∷◌, ◌++◌, map, flat_map, replicate, None, option_map, Option}
use Rattle.ballots.specs.Terms.{Request}
use Rattle.ballots.specs.declared.ballot.Ballot.{Ballot}
use Rattle.ballots.specs.Values.{positions}
use Rattle.ballots.specs.declared.value.Value.TheVariants.{NoOp, Request as Of}
use Rattle.ballots.specs.declared.value.Vote.{Vote}
use Rattle.ballots.specs.declared.value.Entry.{Entry}
use Rattle.ballots.specs.declared.value.Pair.{Pair}
use Rattle.ballots.specs.Replies.{text}
use Rattle.ballots.specs.Messages.{Prepare, Promise, Accept, Packet, packet}
use Rattle.paxos.specs.Application.{Application}
use Rattle.paxos.specs.Records.{window}
use Rattle.paxos.specs.Knowledge.{Heard, AcceptedBy, Promised, pair_of}
use Rattle.paxos.specs.Step.{Running, Leader}
use Rattle.paxos.specs.World.{Member, World, fresh, start, Event, Deliver, Begin, Submits, StopInDeliver, Stop, Start, Happening, Cast, run}

-- the application doesn't matter: nothing is known, and each answer is the empty text
abbrev pub silent : Application
silent = record { reply = λ values client number. None; answer = λ values level question. text [] }

-- the ballot of that round and member
abbrev pub ballot : (round : ℕ) → (member : ℕ) → Ballot
ballot r m = record { round = r; member = m }

-- the text 1 of client 7, numbered 1
abbrev pub request : Request
request = record { client = 7; number = 1; level = 1; text = 49 ∷ [] }

-- the request, under the ballot
abbrev pub vote : Ballot → Vote
vote b = record { ballot = b; value = Of request }

-- these members, the newest first, were heard to have accepted the request at position 1 under the ballot
abbrev pub accepted_from : Ballot → (members : List ℕ) → List Heard
accepted_from b ms = map (λ m. AcceptedBy m 1 (vote b)) ms

-- votes at 1 to n, all of ballot (1,1)
abbrev pub votes_to : (n : ℕ) → List Entry
votes_to zero = []
votes_to (suc k) = votes_to k ++ record { position = suc k; vote = vote (ballot 1 1) } ∷ []

-- the events, in which no store fails and as much is applied as may be, up to one position
abbrev pub smoothly : List Event → List Happening
smoothly events = map (λ (e : Event). record { event = e; choice = record { fails = None; applied = 1 } }) events

-- three members; an Accept of ballot (1,1) and a Prepare of ballot (2,3) are on their way to member 2
abbrev pub on_their_way : World
on_their_way = record {
  members = replicate 3 fresh;
  sent = record { sender = 1; target = 2; body = Accept 1 (vote (ballot 1 1)) } ∷ record { sender = 3; target = 2; body = Prepare (ballot 2 3) 1 } ∷ [];
  votes = [];
  told = [];
}

-- member 2 stops inside its write of that vote, starts, and gets the Prepare
abbrev pub after_stop : (kept : Bool) → World
after_stop kept = run silent on_their_way (smoothly (StopInDeliver 1 kept ∷ Start 2 ∷ Deliver 2 ∷ []))

-- so many messages are delivered, from a number on
abbrev pub deliveries : (from : ℕ) → (many : ℕ) → List Event
deliveries from zero = []
deliveries from (suc k) = Deliver from ∷ deliveries (suc from) k

-- of n members one begins, and all messages are delivered; the request is submitted to it, and all messages are delivered
unfoldable pub straight : (members : ℕ) → World
straight n = run silent (start n) (smoothly (Begin 1 ∷ deliveries 1 (2 * n) ++ Submits 1 request ∷ deliveries (2 * n + 1) (n * n + n + 1)))

-- after the straight run of three members member 3 keeps what it learnt, or not, stops and starts
unfoldable pub after_straight : List Event → World
after_straight events = run silent (straight 3) (smoothly events)

-- how many positions each member has applied, where it runs
abbrev pub applied_in : World → List (Option ℕ)
applied_in w = map (λ (x : Member). option_map (λ (u : Running). u.applied) x.running) w.members

-- a member's promise of ballot (3,3) for all positions, with one vote at position 1
abbrev pub reporting : (member : ℕ) → Vote → Promised
reporting m vote = record {
  member = m;
  window = record { ballot = ballot 3 3; from = 1; covered = positions; entries = record { position = 1; vote = vote } ∷ [] };
}

-- the no-op, under the ballot
abbrev pub no_op : Ballot → Vote
no_op b = record { ballot = b; value = NoOp }

-- A leader change. Of three members one begins, and is heard; the request is submitted to it, and its Accept comes to member 3 alone;
-- member 1 stops. Member 2 begins, members 2 and 3 promise, and what they accept then is delivered to them.
unfoldable pub leader_change : World
leader_change = run silent (start 3) (smoothly (
    Begin 1 ∷ deliveries 1 6 ++ Submits 1 request ∷ Deliver 7 ∷ Deliver 10 ∷ Stop 1
    ∷ Begin 2 ∷ Deliver 15 ∷ Deliver 16 ∷ Deliver 17 ∷ Deliver 18 ∷ Deliver 20 ∷ Deliver 21
    ∷ Deliver 23 ∷ Deliver 26 ∷ Deliver 24 ∷ Deliver 27 ∷ []))

-- the votes that a world has recorded, in order
abbrev pub votes_in : World → List Cast
votes_in w = w.votes

-- the text 1 of client 7, numbered 2
abbrev pub other_request : Request
other_request = record { client = 7; number = 2; level = 1; text = 49 ∷ [] }

-- a vote of ballot (1,1) for a request at a position
abbrev pub vote_for : (position : ℕ) → Request → Entry
vote_for p q = record { position = p; vote = record { ballot = ballot 1 1; value = Of q } }

-- Member 2 leads three members by (2,2); members 2 and 3 have promised, and member 3 reported two requests, at 1 and at 3.
abbrev pub gap_heard : List Packet
gap_heard = packet 3 (Promise (window (ballot 2 2) 1 (vote_for 1 request ∷ vote_for 3 other_request ∷ []))) 2 ∷ packet 2 (Promise (window (ballot 2 2) 1 [])) 2 ∷ []

abbrev pub gap_leader : Leader
gap_leader = record { ballot = ballot 2 2; base = 0; next = 1; proposals = [] }

-- what it proposes
abbrev pub gap_proposed : List Pair
gap_proposed = pair_of 1 (Of request) ∷ pair_of 2 NoOp ∷ pair_of 3 (Of other_request) ∷ []

-- members 1 and 2 accepted all of it by (2,2)
abbrev pub gap_accepted : List Heard
gap_accepted = flat_map (λ m. map (λ (e : Pair). AcceptedBy m e.position (record { ballot = ballot 2 2; value = e.value })) gap_proposed) (1 ∷ 2 ∷ [])
