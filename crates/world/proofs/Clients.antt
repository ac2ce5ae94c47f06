-- What members send that is for clients goes to clients.
use Rattle.std.proofs.Common.{◌≡◌, ℕ, suc, ◌-◌, ◌&&◌, Bool, true, false, refl, ⊎_elim, subst, Option, Some, None, List, [], ◌∷◌, ◌++◌, map, take}
use Rattle.std.specs.Prelude.{if◌then◌else◌, filter, flat_map, not, nat_lt, ◌==◌}
use Rattle.ballots.specs.Ballot.{below}
use Rattle.ballots.specs.Messages.{Answer, Behind, Body, Elsewhere, Reply, Accept, Accepted, CatchUp, Chosen, Prepare, Promise, Submit, Ask, Packet, Window, packet, to_all, up_to}
use Rattle.ballots.specs.Terms.{Question, Request}
use Rattle.ballots.specs.Values.{positions}
use Rattle.ballots.specs.declared.ballot.Ballot.{Ballot}
use Rattle.ballots.specs.declared.reply.Reply.{Reply as Kept}
use Rattle.ballots.specs.declared.value.Pair.{Pair}
use Rattle.ballots.specs.declared.value.Value.{Value}
use Rattle.member.specs.Steps.{Input, Hears, Begins, Resends, CatchesUp, KeepsLearnt, effect_of}
use Rattle.node.specs.Nodes.{IsForClients}
use Rattle.paxos.proofs.Lists.{has_cases, has_flat, has_map}
use Rattle.paxos.specs.Application.{Application}
use Rattle.ballots.specs.declared.value.Value.TheVariants.{Request as Of}
use Rattle.paxos.specs.Knowledge.{AcceptedBy, ChosenAre, joins, learnt_from, news, newly, prefix}
use Rattle.paxos.specs.Proposing.{has_free_place, has_open, proposes}
use Rattle.paxos.specs.Lists.{Has}
use Rattle.paxos.specs.Records.{Record, accept_write, prepare_write, window, writes}
use Rattle.paxos.specs.Step.{Leader, Running, accepts, asks_on, begins, chosen_packet, closes, cover_heard, goes_on, is_called_for, is_learnt_heard, keeping, leading, learns, may_begin, next_ballot, on_ask, on_body, on_new_request, on_promise, on_submit, quiet, report_heard, resent, says, to_keep, turn_of, values_of, yielding}
use Rattle.paxos.specs.World.{Choice, may_fail, settles, stops_in}

-- what is for clients goes to clients
abbrev pub GoesToClients : Packet → Type 0
GoesToClients k = IsForClients k.body → k.target ≡ 0

-- so does all of it
abbrev AllGo : List Packet → Type 0
AllGo ks = (k : Packet) → Has ks k → GoesToClients k

none : AllGo []
none k h = absurd h

-- a message that is for no client
one : (m t : ℕ) (b : Body) → (IsForClients b → ⊥) → AllGo (packet m b t ∷ [])
one m t b off k h = ⊎_elim (λ (e : packet m b t ≡ k). λ f. absurd (off (subst (λ (x : Packet). IsForClients x.body) (sym_of e) f))) (λ (n : ⊥). absurd n) h
  where
    sym_of : {a c : Packet} → a ≡ c → c ≡ a
    sym_of {a} {c} e = subst (λ x. x ≡ a) e refl

-- a message to a client
client : (m : ℕ) (b : Body) → AllGo (packet m b 0 ∷ [])
client m b k h = ⊎_elim (λ (e : packet m b 0 ≡ k). λ f. subst (λ (x : Packet). x.target ≡ 0) e refl) (λ (n : ⊥). absurd n) h

each : (m : ℕ) (b : Body) (ts : List ℕ) → (IsForClients b → ⊥) → AllGo (map (packet m b) ts)
each m b ts off k h f = let q = has_map (packet m b) ts k h in absurd (off (subst (λ (x : Packet). IsForClients x.body) (subst (λ x. x ≡ packet m b q.0) q.1 refl) f))

both : (xs ys : List Packet) → AllGo xs → AllGo ys → AllGo (xs ++ ys)
both xs ys a b k h = ⊎_elim (λ (o : Has xs k). a k o) (λ (o : Has ys k). b k o) (has_cases xs ys k h)

accepts_go : (n m : ℕ) (b : Ballot) (es : List Pair) → AllGo (accepts n m b es)
accepts_go n m b es k h =
    let o = has_flat (λ (e : Pair). to_all n m (Accept e.position (record { ballot = b; value = e.value }))) es k h in
    each m (Accept o.0.position (record { ballot = b; value = o.0.value })) (up_to n) (λ z. z) k o.2

asks_go : (m : ℕ) (heard : List Packet) (l : Leader) (j : ℕ) → AllGo (asks_on m heard l j)
asks_go m heard l j = by (nat_lt (cover_heard heard l j) positions)
  where
    by : (t : Bool) → AllGo (if t then packet m (Prepare l.ballot (suc (cover_heard heard l j))) j ∷ [] else [])
    by true = one m j (Prepare l.ballot (suc (cover_heard heard l j))) (λ z. z)
    by false = none

promise_go : (n m : ℕ) (older : List Packet) (u : Running) (sender : ℕ) (w : Window) (o : Option Leader) → AllGo (on_promise n m older u sender w o).sends
promise_go n m older u sender w None = none
promise_go n m older u sender w (Some l) = by (joins l.ballot (cover_heard older l sender) w)
  where
    by : (t : Bool) → AllGo (if t then leading n m u l (goes_on n u.heard l) (asks_on m u.heard l sender) [] else quiet u).sends
    by true = both (asks_on m u.heard l sender) (accepts n m l.ballot (goes_on n u.heard l).made) (asks_go m u.heard l sender) (accepts_go n m l.ballot (goes_on n u.heard l).made)
    by false = none

learns_go : (n m : ℕ) (u : Running) (es : List Pair) (o : Option Leader) → AllGo (learns n m u es o).sends
learns_go n m u [] o = none
learns_go n m u (e ∷ es) None = none
learns_go n m u (e ∷ es) (Some l) = accepts_go n m l.ballot (goes_on n u.heard (closes n u.heard l)).made

chosen_go : (m t : ℕ) (es : List Pair) → AllGo (chosen_packet m t es)
chosen_go m t [] = none
chosen_go m t (e ∷ es) = one m t (Chosen (e ∷ es)) (λ z. z)

request_go : (n m : ℕ) (r : Record) (u : Running) (q : Request) (o : Option Leader) → AllGo (on_new_request n m r u q o).sends
request_go n m r u q None = client m (Elsewhere q.client q.number r.promise.member)
request_go n m r u q (Some l) = by (not (has_open q l.proposals) && has_free_place n (cover_heard u.heard l) (report_heard u.heard l) (is_learnt_heard n u.heard) (turn_of l))
  where
    by : (t : Bool) → AllGo (if t then leading n m u l (proposes (Of q) (turn_of l)) [] [] else quiet u).sends
    by true = accepts_go n m l.ballot (proposes (Of q) (turn_of l)).made
    by false = none

submit_go : (n m : ℕ) (r : Record) (u : Running) (q : Request) (o : Option Kept) → AllGo (on_submit n m r u q o).sends
submit_go n m r u q (Some reply) = client m (Reply q.client q.number reply)
submit_go n m r u q None = request_go n m r u q u.leader

ask_go : (app : Application) (n m : ℕ) (u : Running) (q : Question) → AllGo (on_ask app n m u q).sends
ask_go app n m u q = by (nat_lt u.applied q.floor)
  where
    by : (t : Bool) → AllGo (if t then says u (packet m (Behind q.client q.number u.applied) 0 ∷ []) else says u (packet m (Answer q.client q.number u.applied (app.answer (values_of n u) q.level q.text)) 0 ∷ [])).sends
    by true = client m (Behind q.client q.number u.applied)
    by false = client m (Answer q.client q.number u.applied (app.answer (values_of n u) q.level q.text))

body_goes : (app : Application) (n m : ℕ) (older : List Packet) (r : Record) (u : Running) (sender : ℕ) (b : Body) → AllGo (on_body app n m older r u sender b).sends
body_goes app n m older r u sender (Prepare b from) = by (below b r.promise)
  where
    by : (t : Bool) → AllGo (if t then quiet u else record { write = prepare_write r b; running = Some (yielding b u); sends = packet m (Promise (window b from r.votes)) b.member ∷ []; tells = [] }).sends
    by true = none
    by false = one m b.member (Promise (window b from r.votes)) (λ z. z)
body_goes app n m older r u sender (Promise w) = promise_go n m older u sender w u.leader
body_goes app n m older r u sender (Accept p vote) = by (below vote.ballot r.promise)
  where
    by : (t : Bool) → AllGo (if t then quiet u else record { write = accept_write r p vote; running = Some (yielding vote.ballot u); sends = to_all n m (Accepted p vote); tells = [] }).sends
    by true = none
    by false = each m (Accepted p vote) (up_to n) (λ z. z)
body_goes app n m older r u sender (Accepted p vote) = learns_go n m u (newly n (AcceptedBy sender p vote) (news older)) u.leader
body_goes app n m older r u sender (Chosen pairs) = learns_go n m u (newly n (ChosenAre pairs) (news older)) u.leader
body_goes app n m older r u sender (CatchUp from) = chosen_go m sender (take 8 (learnt_from n (news u.heard) from (suc positions - from)))
body_goes app n m older r u sender (Submit q) = submit_go n m r u q (app.reply (values_of n u) q.client q.number)
body_goes app n m older r u sender (Ask q) = ask_go app n m u q
body_goes app n m older r u sender b = none

resent_go : (n m : ℕ) (heard : List Packet) (o : Option Leader) → AllGo (resent n m heard o)
resent_go n m heard None = none
resent_go n m heard (Some l) = both (accepts n m l.ballot l.proposals) (flat_map (asks_on m heard l) (up_to n)) (accepts_go n m l.ballot l.proposals)
    (λ k h. let o = has_flat (asks_on m heard l) (up_to n) k h in asks_go m heard l o.0 k o.2)

effect_goes : (app : Application) (n m : ℕ) (i : Input) (r : Record) (u : Running) → AllGo (effect_of app n m r u i).sends
effect_goes app n m (Hears k) r u = by (is_called_for r k.body)
  where
    by : (t : Bool) → AllGo (if t then on_body app n m u.heard r (record { heard = k ∷ u.heard; leader = u.leader; applied = u.applied }) k.sender k.body else quiet u).sends
    by true = body_goes app n m u.heard r (record { heard = k ∷ u.heard; leader = u.leader; applied = u.applied }) k.sender k.body
    by false = none
effect_goes app n m Begins r u = by (may_begin n r u)
  where
    by : (t : Bool) → AllGo (if t then begins n m r u else quiet u).sends
    by true = each m (Prepare (next_ballot m r) (suc (prefix n (news u.heard)))) (up_to n) (λ z. z)
    by false = none
effect_goes app n m Resends r u = resent_go n m u.heard u.leader
effect_goes app n m CatchesUp r u = by (nat_lt (prefix n (news u.heard)) positions)
  where
    by : (t : Bool) → AllGo (if t then map (packet m (CatchUp (suc (prefix n (news u.heard))))) (filter (λ k. not (k == m)) (up_to n)) else [])
    by true = each m (CatchUp (suc (prefix n (news u.heard)))) (filter (λ k. not (k == m)) (up_to n)) (λ z. z)
    by false = none
effect_goes app n m KeepsLearnt r u = by (to_keep n r u)
  where
    by : (o : Option Value) → AllGo (keeping u o).sends
    by None = none
    by (Some value) = none

-- Of a step nothing for clients goes to a member, whatever it leaves open.
pub step_goes : (app : Application) (n m : ℕ) (i : Input) (r : Record) (u : Running) (c : Choice) (k : Packet) → Has (settles n c (effect_of app n m r u i)).sends k → GoesToClients k
step_goes app n m i r u c k h = effect_goes app n m i r u k (one_of c.fails h)
  where
    two : (left b : Bool) → Has (if b then stops_in left (effect_of app n m r u i) else effect_of app n m r u i).sends k → Has (effect_of app n m r u i).sends k
    two left true o = absurd o
    two left false o = o

    one_of : (f : Option Bool) → Has (may_fail f (effect_of app n m r u i)).sends k → Has (effect_of app n m r u i).sends k
    one_of None o = o
    one_of (Some left) o = two left (writes (effect_of app n m r u i).write) o
