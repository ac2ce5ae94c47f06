-- What one member does with each message and each tick: what it writes, sends and tells, and how it runs on.
-- The two phases are those of "Paxos Made Simple", sections 2.2 and 3; the rest is our own choice where nothing is cited.
use Rattle.std.specs.Prelude.{ℕ, suc, ◌-◌, Bool, true, not, ◌&&◌, ◌==◌, nat_lt, if◌then◌else◌, List, [], ◌∷◌, ◌++◌, map, flat_map, filter, take, length, Option, Some, None, is_some}
use Rattle.ballots.specs.Terms.{Request, Question}
use Rattle.ballots.specs.Ballot.{below, last_round}
use Rattle.ballots.specs.declared.ballot.Ballot.{Ballot}
use Rattle.ballots.specs.Values.{positions, most_entries}
use Rattle.ballots.specs.declared.value.Value.{Value}
use Rattle.ballots.specs.declared.value.Value.TheVariants.{Request as Of}
use Rattle.ballots.specs.declared.value.Vote.{Vote}
use Rattle.ballots.specs.declared.value.Pair.{Pair}
use Rattle.ballots.specs.declared.reply.Reply.{Reply as Kept}
use Rattle.ballots.specs.Messages.{Window, Body, Prepare, Promise, Accept, Accepted, Chosen, CatchUp, Submit, Reply, Ask, Answer, Behind, Elsewhere, Packet, packet, up_to, to_all}
use Rattle.paxos.specs.Application.{Application}
use Rattle.paxos.specs.Records.{Record, window, Write, Nothing, NewPromise, NewLearnt, prepare_write, accept_write}
use Rattle.paxos.specs.Knowledge.{Heard, AcceptedBy, ChosenAre, news, learnt, numbered, newly, prefix, learnt_from, values_to, windows, joins, cover, reported}
use Rattle.paxos.specs.Proposing.{Turn, proposes, still_open, has_open, turns, has_free_place}

-- A leader's ballot; the positions up to the base were learnt when it began; the next position to propose at; the open proposals.
pub record Leader : Type 0 where
  pub ballot : Ballot
  pub base : ℕ
  pub next : ℕ
  pub proposals : List Pair

-- What a member has while it runs: the messages heard since its start, the newest first; what it leads; how many positions it has applied.
pub record Running : Type 0 where
  pub heard : List Packet
  pub leader : Option Leader
  pub applied : ℕ

-- what a step writes, how the member runs on (or that it stops), what it sends in this order, and what it is told
pub record Effect : Type 0 where
  pub write : Write
  pub running : Option Running
  pub sends : List Packet
  pub tells : List Pair

-- nothing but these messages
abbrev pub says : Running → List Packet → Effect
says u sends = record { write = Nothing; running = Some u; sends = sends; tells = [] }

-- nothing at all
abbrev pub quiet : Running → Effect
quiet u = says u []

-- a leader of a lower ballot leads no more
abbrev pub yields : Ballot → Option Leader → Option Leader
yields b None = None
yields b (Some l) = if below l.ballot b then None else Some l

-- a member that promises the ballot
abbrev pub yielding : Ballot → Running → Running
yielding b u = record { heard = u.heard; leader = yields b u.leader; applied = u.applied }

-- The acceptor (sections 2.2 and 2.5).

-- a Prepare below the promise gets nothing; another gets the promise and what it covers
abbrev pub on_prepare : (self : ℕ) → Record → Running → Ballot → (from : ℕ) → Effect
on_prepare m r u b from =
    if below b r.promise then quiet u
    else record {
      write = prepare_write r b;
      running = Some (yielding b u);
      sends = packet m (Promise (window b from r.votes)) b.member ∷ [];
      tells = [];
    }

-- an Accept below the promise gets nothing; of another all members hear that it is accepted
abbrev pub on_accept : (members : ℕ) → (self : ℕ) → Record → Running → (position : ℕ) → Vote → Effect
on_accept n m r u p vote =
    if below vote.ballot r.promise then quiet u
    else record {
      write = accept_write r p vote;
      running = Some (yielding vote.ballot u);
      sends = to_all n m (Accepted p vote);
      tells = [];
    }

-- The leader (section 3).

-- how far the windows that a leader heard cover
abbrev pub cover_heard : List Packet → Leader → (member : ℕ) → ℕ
cover_heard heard l k = cover l.ballot l.base k (windows heard)

-- the highest vote that they report at a position
abbrev pub report_heard : List Packet → Leader → (position : ℕ) → Option Vote
report_heard heard l p = reported l.ballot l.base p (windows heard)

-- the position is learnt
abbrev pub is_learnt_heard : (members : ℕ) → List Packet → (position : ℕ) → Bool
is_learnt_heard n heard p = is_some (learnt n p (news heard))

-- where proposing begins in a step
abbrev pub turn_of : Leader → Turn
turn_of l = record { next = l.next; proposals = l.proposals; made = [] }

-- what proposing comes to, from what the leader knows
abbrev pub goes_on : (members : ℕ) → List Packet → Leader → Turn
goes_on n heard l = turns n (cover_heard heard l) (report_heard heard l) (is_learnt_heard n heard) positions (turn_of l)

-- the Accepts of proposals, each to all members
abbrev pub accepts : (members : ℕ) → (self : ℕ) → Ballot → List Pair → List Packet
accepts n m b proposals = flat_map (λ (e : Pair). to_all n m (Accept e.position (record { ballot = b; value = e.value }))) proposals

-- the leader after proposing: it sends some messages, and the Accepts of what it proposed
abbrev pub leading : (members : ℕ) → (self : ℕ) → Running → Leader → Turn → List Packet → List Pair → Effect
leading n m u l t before tells = record {
  write = Nothing;
  running = Some (record { heard = u.heard; leader = Some (record { ballot = l.ballot; base = l.base; next = t.next; proposals = t.proposals }); applied = u.applied });
  sends = before ++ accepts n m l.ballot t.made;
  tells = tells;
}

-- the next Prepare to a member whose windows don't cover all
abbrev pub asks_on : (self : ℕ) → List Packet → Leader → (member : ℕ) → List Packet
asks_on m heard l k =
    if nat_lt (cover_heard heard l k) positions then packet m (Prepare l.ballot (suc (cover_heard heard l k))) k ∷ [] else []

-- a window that joins is merged, the member is asked on, and proposing goes on
abbrev pub on_promise : (members : ℕ) → (self : ℕ) → (older : List Packet) → Running → (sender : ℕ) → Window → Option Leader → Effect
on_promise n m older u sender w None = quiet u
on_promise n m older u sender w (Some l) =
    if joins l.ballot (cover_heard older l sender) w
    then leading n m u l (goes_on n u.heard l) (asks_on m u.heard l sender) []
    else quiet u

-- The learner (sections 2.3 and 3).

-- the proposals at learnt positions are closed
abbrev pub closes : (members : ℕ) → List Packet → Leader → Leader
closes n heard l = record { ballot = l.ballot; base = l.base; next = l.next; proposals = still_open (is_learnt_heard n heard) l.proposals }

-- where something is newly learnt, it is told, its proposals are closed, and proposing goes on
abbrev pub learns : (members : ℕ) → (self : ℕ) → Running → List Pair → Option Leader → Effect
learns n m u [] lead = quiet u
learns n m u (e ∷ es) None = record { write = Nothing; running = Some u; sends = []; tells = e ∷ es }
learns n m u (e ∷ es) (Some l) = leading n m u (closes n u.heard l) (goes_on n u.heard (closes n u.heard l)) [] (e ∷ es)

-- what a learner hears
abbrev pub on_news : (members : ℕ) → (self : ℕ) → (older : List Packet) → Running → Heard → Effect
on_news n m older u h = learns n m u (newly n h (news older)) u.leader

-- one message that tells what is chosen, or none if there is nothing to tell
abbrev pub chosen_packet : (self : ℕ) → (target : ℕ) → List Pair → List Packet
chosen_packet m target [] = []
chosen_packet m target (e ∷ es) = packet m (Chosen (e ∷ es)) target ∷ []

-- the lowest 8 learnt positions from this one on
abbrev pub on_catch_up : (members : ℕ) → (self : ℕ) → Running → (sender : ℕ) → (from : ℕ) → Effect
on_catch_up n m u sender from = says u (chosen_packet m sender (take most_entries (learnt_from n (news u.heard) from (suc positions - from))))

-- Clients.

-- the values that a member has applied
abbrev pub values_of : (members : ℕ) → Running → List Value
values_of n u = values_to n (news u.heard) u.applied

-- A new request: a leader with place proposes it, unless one of its client and number is open; another member names the member that
-- it promised.
abbrev pub on_new_request : (members : ℕ) → (self : ℕ) → Record → Running → Request → Option Leader → Effect
on_new_request n m r u q None = says u (packet m (Elsewhere q.client q.number r.promise.member) 0 ∷ [])
on_new_request n m r u q (Some l) =
    if not (has_open q l.proposals) && has_free_place n (cover_heard u.heard l) (report_heard u.heard l) (is_learnt_heard n u.heard) (turn_of l)
    then leading n m u l (proposes (Of q) (turn_of l)) [] []
    else quiet u

-- a known client and number gets its kept reply
abbrev pub on_submit : (members : ℕ) → (self : ℕ) → Record → Running → Request → Option Kept → Effect
on_submit n m r u q (Some reply) = says u (packet m (Reply q.client q.number reply) 0 ∷ [])
on_submit n m r u q None = on_new_request n m r u q u.leader

-- a question gets its answer, or how far this member is where that is less than the floor
abbrev pub on_ask : Application → (members : ℕ) → (self : ℕ) → Running → Question → Effect
on_ask app n m u q =
    if nat_lt u.applied q.floor then says u (packet m (Behind q.client q.number u.applied) 0 ∷ [])
    else says u (packet m (Answer q.client q.number u.applied (app.answer (values_of n u) q.level q.text)) 0 ∷ [])

-- what each kind of message does; the kinds for clients do nothing
abbrev pub on_body : Application → (members : ℕ) → (self : ℕ) → (older : List Packet) → Record → Running → (sender : ℕ) → Body → Effect
on_body app n m older r u sender (Prepare b from) = on_prepare m r u b from
on_body app n m older r u sender (Promise w) = on_promise n m older u sender w u.leader
on_body app n m older r u sender (Accept p vote) = on_accept n m r u p vote
on_body app n m older r u sender (Accepted p vote) = on_news n m older u (AcceptedBy sender p vote)
on_body app n m older r u sender (Chosen pairs) = on_news n m older u (ChosenAre pairs)
on_body app n m older r u sender (CatchUp from) = on_catch_up n m u sender from
on_body app n m older r u sender (Submit q) = on_submit n m r u q (app.reply (values_of n u) q.client q.number)
on_body app n m older r u sender (Ask q) = on_ask app n m u q
on_body app n m older r u sender body = quiet u

-- Of a ballot above its own promise a member hears no promise: it has not asked for one, and members send none. So a leader knows just the
-- windows of its ballot that came since it began.
abbrev pub is_called_for : Record → Body → Bool
is_called_for r (Promise w) = not (below r.promise w.ballot)
is_called_for r body = true

-- a message comes: it is heard, and answered
abbrev pub on_message : Application → (members : ℕ) → (self : ℕ) → Packet → Record → Running → Effect
on_message app n m k r u =
    if is_called_for r k.body
    then on_body app n m u.heard r (record { heard = k ∷ u.heard; leader = u.leader; applied = u.applied }) k.sender k.body
    else quiet u

-- Ticks.

-- the ballot that a member begins
abbrev pub next_ballot : (self : ℕ) → Record → Ballot
next_ballot m r = record { round = suc r.promise.round; member = m }

-- positions and rounds are left
abbrev pub may_begin : (members : ℕ) → Record → Running → Bool
may_begin n r u = nat_lt (prefix n (news u.heard)) positions && nat_lt r.promise.round last_round

-- a ballot of the next round is promised, and every member is asked from the first position on that is not learnt
abbrev pub begins : (members : ℕ) → (self : ℕ) → Record → Running → Effect
begins n m r u =
    let base = prefix n (news u.heard) in
    record {
      write = NewPromise (next_ballot m r);
      running = Some (record { heard = u.heard; leader = Some (record { ballot = next_ballot m r; base = base; next = suc base; proposals = [] }); applied = u.applied });
      sends = to_all n m (Prepare (next_ballot m r) (suc base));
      tells = [];
    }

-- a Begin is refused where positions or rounds are spent
abbrev pub on_begin : (members : ℕ) → (self : ℕ) → Record → Running → Effect
on_begin n m r u = if may_begin n r u then begins n m r u else quiet u

-- a leader's open Accepts by position, then its next Prepares by member
abbrev pub resent : (members : ℕ) → (self : ℕ) → List Packet → Option Leader → List Packet
resent n m heard None = []
resent n m heard (Some l) = accepts n m l.ballot l.proposals ++ flat_map (asks_on m heard l) (up_to n)

-- a leader sends again what may be lost
abbrev pub on_resend : (members : ℕ) → (self : ℕ) → Running → Effect
on_resend n m u = says u (resent n m u.heard u.leader)

-- all other members are asked for what is chosen from the first position on that is not learnt
abbrev pub on_catch_up_tick : (members : ℕ) → (self : ℕ) → Running → Effect
on_catch_up_tick n m u =
    let p = prefix n (news u.heard) in
    says u (if nat_lt p positions then map (packet m (CatchUp (suc p))) (filter (λ k. not (k == m)) (up_to n)) else [])

-- the first value past what the record keeps, if all positions up to it are learnt
abbrev pub to_keep : (members : ℕ) → Record → Running → Option Value
to_keep n r u = if nat_lt (length r.learnt) (prefix n (news u.heard)) then learnt n (suc (length r.learnt)) (news u.heard) else None

-- the value is kept
abbrev pub keeping : Running → Option Value → Effect
keeping u None = quiet u
keeping u (Some value) = record { write = NewLearnt value; running = Some u; sends = []; tells = [] }

-- one more learnt value is kept over stops, in the order of positions
abbrev pub on_keep : (members : ℕ) → Record → Running → Effect
on_keep n r u = keeping u (to_keep n r u)

-- A start has the record and nothing else: the member tells itself what it kept, as chosen values, and so has learnt just these.
abbrev pub resumed : (self : ℕ) → Record → Running
resumed m r = record { heard = chosen_packet m m (numbered 1 r.learnt); leader = None; applied = 0 }
