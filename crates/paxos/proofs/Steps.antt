-- Each step of a member keeps what it keeps and leads well formed, sends and is told nothing else, and lowers no promise.
use Rattle.std.proofs.Common.{◌≡◌, ℕ, zero, suc, ◌-◌, ◌<◌, ◌≤◌, ◌⊎◌, Bool, true, false, cond, not, arith, refl, inl, inr, sym, subst, ap, Option, Some, None, ⊎_elim, List, [], ◌∷◌, ◌++◌, map, filter, length, length-append, take, ◌&&◌, ◌==◌, nat_lt, ltb-true}
use Rattle.std.specs.Prelude.{flat_map}
use Rattle.std.proofs.lemmas.Bool.{and_parts}
use Rattle.std.proofs.lemmas.List.{length-take}
use Rattle.std.proofs.lemmas.Option.{same_Some}
use Rattle.paxos.specs.Lists.{Has}
use Rattle.ballots.specs.Terms.{Request, Question}
use Rattle.ballots.specs.Ballot.{IsBallotOf, most_members, last_round, no_ballot, below}
use Rattle.ballots.specs.declared.ballot.Ballot.{Ballot}
use Rattle.ballots.specs.Values.{IsPosition, positions}
use Rattle.ballots.specs.declared.value.Value.{Value}
use Rattle.ballots.specs.declared.value.Value.TheVariants.{Request as Of}
use Rattle.ballots.specs.declared.value.Vote.{Vote}
use Rattle.ballots.specs.declared.value.Pair.{Pair}
use Rattle.ballots.specs.declared.reply.Reply.{Reply as Kept}
use Rattle.ballots.specs.Messages.{Window, Body, Prepare, Promise, Accept, Accepted, Chosen, CatchUp, Submit, Reply, Ask, Answer, Behind, Elsewhere, Packet, packet, up_to, to_all}
use Rattle.paxos.specs.Application.{Application}
use Rattle.paxos.specs.Records.{Record, window, Write, Nothing, NewPromise, NewVote, NewLearnt, written, prepare_write, has_vote, vote_at, accept_write}
use Rattle.paxos.specs.Knowledge.{AcceptedBy, ChosenAre, news, learnt, newly, prefix, learnt_from, joins}
use Rattle.paxos.specs.Proposing.{Turn, proposes, has_open, has_free_place}
use Rattle.paxos.specs.Step.{Leader, Running, Effect, says, quiet, yields, yielding, on_prepare, on_accept, cover_heard, report_heard, is_learnt_heard, turn_of, goes_on, accepts, leading, asks_on, on_promise, closes, learns, chosen_packet, on_catch_up, values_of, on_new_request, on_submit, on_ask, on_body, is_called_for, on_message, next_ballot, may_begin, begins, on_begin, resent, on_resend, on_catch_up_tick, keeping, on_keep}
use Rattle.paxos.specs.WellFormed.{AreVotes, ArePairs, IsBody, IsSender, IsMessage, IsRecord, IsLeader, IsCalledFor, IsState, IsStep}
use Rattle.paxos.proofs.Order.{below_self, below_not, from_under, most_trans}
use Rattle.paxos.proofs.Lists.{has_cases, has_flat, has_filter}
use Rattle.paxos.proofs.News.{prefix_limit}
use Rattle.paxos.proofs.Accepting.{yields_is}
use Rattle.paxos.proofs.Ranges.{votes_weaker, votes_with, window_is, newly_at_pairs, each_newly_pairs, learnt_from_pairs, pairs_take}
use Rattle.paxos.proofs.Places.{Each, each_of, of_each, Placed, proposes_placed, place_is, turns_placed}

-- a member's Prepares are of its own ballots, not above its promise; its Promises go to a ballot's member that asked for it
abbrev pub Calls : (Asked : Ballot → Type 0) → (self : ℕ) → Record → (target : ℕ) → Body → Type 0
Calls Asked m r target (Prepare b from) = (m ≡ b.member) × (below r.promise b ≡ false)
Calls Asked m r target (Promise w) = Asked w.ballot × (target ≡ w.ballot.member)
Calls Asked m r target body = Unit {0}

-- what a member may send that keeps r from then on
pub record MaySend (n m : ℕ) (Asked : Ballot → Type 0) (r : Record) (k : Packet) : Type 0 where
  pub message : IsMessage n k
  pub calls : Calls Asked m r k.target k.body

-- a step of a member that keeps r, as the law has it, and what it says of promises
pub record Stepped (n m : ℕ) (Asked : Ballot → Type 0) (r : Record) (e : Effect) : Type 0 where
  pub kept : IsRecord n (written e.write r)
  pub grows : below (written e.write r).promise r.promise ≡ false
  pub runs : (u : Running) → e.running ≡ Some u → IsState n m (written e.write r) u
  pub sends : (k : Packet) → Has e.sends k → MaySend n m Asked (written e.write r) k
  pub tells : ArePairs 1 e.tells

-- the step is as the law has it
is_step : (n m : ℕ) (Asked : Ballot → Type 0) (r : Record) (e : Effect) → Stepped n m Asked r e → IsStep n m r e
is_step n m Asked r e s = record { kept = s.kept; runs = s.runs; sends = λ k h. (s.sends k h).message; tells = s.tells }

-- with a higher promise a message is called for still
pub called_still : (r s : Record) (body : Body) → below s.promise r.promise ≡ false → IsCalledFor r body → IsCalledFor s body
called_still r s (Promise w) g h = most_trans w.ballot r.promise s.promise h g
called_still r s body g h = tt

-- each of 1 to n is at most n
up_to_most : (n t : ℕ) → Has (up_to n) t → t ≤ n
up_to_most zero t h = absurd h
up_to_most (suc n) t h = ⊎_elim
    (λ (o : Has (up_to n) t). omega (arith, up_to_most n t o))
    (λ (o : Has (suc n ∷ []) t). ⊎_elim (λ (e : suc n ≡ t). omega arith) (λ (e : ⊥). absurd e) o)
    (has_cases (up_to n) (suc n ∷ []) t h)

-- what holds of a body to each target holds of each message
to_each : (P : Packet → Type 0) (m : ℕ) (body : Body) (ts : List ℕ) → ((t : ℕ) → Has ts t → P (packet m body t)) → (k : Packet) → Has (map (packet m body) ts) k → P k
to_each P m body [] h k o = absurd o
to_each P m body (t ∷ ts) h k (inl e) = subst P e (h t (inl refl))
to_each P m body (t ∷ ts) h k (inr o) = to_each P m body ts (λ x q. h x (inr q)) k o

-- what holds of one message holds of each in the list of it
to_one : (P : Packet → Type 0) (x : Packet) → P x → (k : Packet) → Has (x ∷ []) k → P k
to_one P x h k (inl e) = subst P e h
to_one P x h k (inr e) = absurd e

-- one of n members, which keeps r and runs as u; Asked are the ballots that it may promise
module _ (n m : ℕ) (low : 1 ≤ m) (high : m ≤ n) (Asked : Ballot → Type 0) (r : Record) (u : Running) (s : IsState n m r u) where
  -- what the member may send
  abbrev Sends : Packet → Type 0
  Sends k = MaySend n m Asked r k

  -- it runs on as it was, but for what it leads
  runs_as : (t : Record) → IsRecord n t → below t.promise r.promise ≡ false → (o : Option Leader) → ((l : Leader) → o ≡ Some l → IsLeader n m t l)
      → (v : Running) → Some (record { heard = u.heard; leader = o; applied = u.applied }) ≡ Some v → IsState n m t v
  runs_as t kept grows o leads v e = subst (IsState n m t) (same_Some _ v e) (record { kept = kept; leads = leads; heard = λ k h. called_still r t k.body grows (s.heard k h) })

  -- it says and is told something
  tells_step : (sends : List Packet) (tells : List Pair) → ((k : Packet) → Has sends k → Sends k) → ArePairs 1 tells → Stepped n m Asked r (record { write = Nothing; running = Some u; sends = sends; tells = tells })
  tells_step sends tells said told = record {
    kept = s.kept;
    grows = below_self r.promise;
    runs = λ v e. subst (IsState n m r) (same_Some u v e) s;
    sends = said;
    tells = told;
  }

  -- it says something
  says_step : (sends : List Packet) → ((k : Packet) → Has sends k → Sends k) → Stepped n m Asked r (says u sends)
  says_step sends said = tells_step sends [] said tt

  -- it does nothing
  pub quiet_step : Stepped n m Asked r (quiet u)
  quiet_step = says_step [] (λ k h. absurd h)

  -- a leader that doesn't yield leads still
  yields_leads : (b : Ballot) (t : Record) → below t.promise r.promise ≡ false → (l : Leader) → yields b u.leader ≡ Some l → IsLeader n m t l
  yields_leads b t grows l e = let g = s.leads l (yields_is b u.leader l e).0 in record {
    ballot = g.ballot;
    own = g.own;
    kept = most_trans l.ballot r.promise t.promise g.kept grows;
    least = g.least;
    most = g.most;
    proposals = g.proposals;
  }

  -- the answer of an acceptor
  answers_step : (b : Ballot) (write : Write) (sends : List Packet) → IsRecord n (written write r) → below (written write r).promise r.promise ≡ false → ((k : Packet) → Has sends k → MaySend n m Asked (written write r) k)
      → Stepped n m Asked r (record { write = write; running = Some (yielding b u); sends = sends; tells = [] })
  answers_step b write sends kept grows said = record {
    kept = kept;
    grows = grows;
    runs = runs_as (written write r) kept grows (yields b u.leader) (λ l e. yields_leads b (written write r) grows l e);
    sends = said;
    tells = tt;
  }

  -- the votes kept are not above a higher promise
  votes_under : (b : Ballot) → below b r.promise ≡ false → AreVotes n b 1 positions r.votes
  votes_under b h = votes_weaker n r.promise b 1 1 positions positions h (omega arith) (omega arith) r.votes s.kept.votes

  -- a Prepare
  prepare_step : (b : Ballot) (from : ℕ) → IsBallotOf n b → IsPosition from → Asked b → Stepped n m Asked r (on_prepare m r u b from)
  prepare_step b from is here asked = one (below b r.promise) refl
    where
      said : (t : Record) → below b r.promise ≡ false → (k : Packet) → Has (packet m (Promise (window b from r.votes)) b.member ∷ []) k → MaySend n m Asked t k
      said t h k o = to_one (MaySend n m Asked t) (packet m (Promise (window b from r.votes)) b.member)
          (record { message = record { sender = (low, high); target = is.1; body = window_is n b from r.votes is here (votes_under b h) }; calls = (asked, refl) }) k o

      two : below b r.promise ≡ false → (t : Bool) → Stepped n m Asked r (record { write = cond t (NewPromise b) Nothing; running = Some (yielding b u); sends = packet m (Promise (window b from r.votes)) b.member ∷ []; tells = [] })
      two h true = answers_step b (NewPromise b) _ (record { promise = inr is; votes = votes_under b h; learnt = s.kept.learnt }) h (said (written (NewPromise b) r) h)
      two h false = answers_step b Nothing _ s.kept (below_self r.promise) (said r h)

      one : (t : Bool) → below b r.promise ≡ t → Stepped n m Asked r (cond t (quiet u) (record { write = prepare_write r b; running = Some (yielding b u); sends = packet m (Promise (window b from r.votes)) b.member ∷ []; tells = [] }))
      one true h = quiet_step
      one false h = two h (below r.promise b)

  -- an Accept
  accept_step : (p : ℕ) (vote : Vote) → IsPosition p → IsBallotOf n vote.ballot → Stepped n m Asked r (on_accept n m r u p vote)
  accept_step p vote here is = one (below vote.ballot r.promise) refl
    where
      said : (t : Record) (k : Packet) → Has (to_all n m (Accepted p vote)) k → MaySend n m Asked t k
      said t k o = to_each (MaySend n m Asked t) m (Accepted p vote) (up_to n)
          (λ j q. record { message = record { sender = (low, high); target = up_to_most n j q; body = (here, is) }; calls = tt }) k o

      two : below vote.ballot r.promise ≡ false → (t : Bool) → Stepped n m Asked r (record { write = cond t Nothing (NewVote p vote); running = Some (yielding vote.ballot u); sends = to_all n m (Accepted p vote); tells = [] })
      two h true = answers_step vote.ballot Nothing _ s.kept (below_self r.promise) (said r)
      two h false = answers_step vote.ballot (NewVote p vote) _
          (record { promise = inr is; votes = votes_with n vote.ballot p vote 1 positions here.0 here.1 is (below_self vote.ballot) r.votes (votes_under vote.ballot h); learnt = s.kept.learnt })
          h (said (written (NewVote p vote) r))

      one : (t : Bool) → below vote.ballot r.promise ≡ t → Stepped n m Asked r (cond t (quiet u) (record { write = accept_write r p vote; running = Some (yielding vote.ballot u); sends = to_all n m (Accepted p vote); tells = [] }))
      one true h = quiet_step
      one false h = two h (has_vote (vote_at p r.votes) vote)

  -- a leader's Accepts
  accepts_send : (l : Leader) → IsLeader n m r l → (es : List Pair) → Each es → (k : Packet) → Has (accepts n m l.ballot es) k → Sends k
  accepts_send l g es each k h =
      let f = has_flat (λ (e : Pair). to_all n m (Accept e.position (record { ballot = l.ballot; value = e.value }))) es k h in
      to_each Sends m (Accept f.0.position (record { ballot = l.ballot; value = f.0.value })) (up_to n)
      (λ j q. record { message = record { sender = sym g.own; target = up_to_most n j q; body = (each f.0 f.1, g.ballot) }; calls = tt }) k f.2

  -- a leader's next Prepare to a member
  asks_on_send : (l : Leader) → IsLeader n m r l → (j : ℕ) → j ≤ n → (k : Packet) → Has (asks_on m u.heard l j) k → Sends k
  asks_on_send l g j most k h = one (nat_lt (cover_heard u.heard l j) positions) refl h
    where
      one : (t : Bool) → nat_lt (cover_heard u.heard l j) positions ≡ t → Has (cond t (packet m (Prepare l.ballot (suc (cover_heard u.heard l j))) j ∷ []) []) k → Sends k
      one true q o = to_one Sends (packet m (Prepare l.ballot (suc (cover_heard u.heard l j))) j) (record {
        message = record { sender = sym g.own; target = most; body = (g.ballot, (omega arith, ltb-true (cover_heard u.heard l j) positions q)) };
        calls = (sym g.own, g.kept);
      }) k o
      one false q o = absurd o

  -- a leader that proposes
  leading_step : (l : Leader) → IsLeader n m r l → (t : Turn) → Placed t → (before : List Packet) → ((k : Packet) → Has before k → Sends k) → (tells : List Pair) → ArePairs 1 tells
      → Stepped n m Asked r (leading n m u l t before tells)
  leading_step l g t c before said tells told = record {
    kept = s.kept;
    grows = below_self r.promise;
    runs = runs_as r s.kept (below_self r.promise) (Some (record { ballot = l.ballot; base = l.base; next = t.next; proposals = t.proposals })) (λ j e. subst (IsLeader n m r) (same_Some _ j e) leads);
    sends = λ k h. ⊎_elim
        (λ (o : Has before k). said k o)
        (λ (o : Has (accepts n m l.ballot t.made) k). accepts_send l g t.made c.made k o)
        (has_cases before (accepts n m l.ballot t.made) k h);
    tells = told;
  }
    where
      leads : IsLeader n m r (record { ballot = l.ballot; base = l.base; next = t.next; proposals = t.proposals })
      leads = record { ballot = g.ballot; own = g.own; kept = g.kept; least = c.least; most = c.most; proposals = of_each t.proposals c.proposals }

  -- before the first turn
  turn_placed : (l : Leader) → IsLeader n m r l → Placed (turn_of l)
  turn_placed l g = record { least = g.least; most = g.most; proposals = each_of l.proposals g.proposals; made = λ e h. absurd h }

  -- proposing goes on
  goes_on_step : (l : Leader) → IsLeader n m r l → (before : List Packet) → ((k : Packet) → Has before k → Sends k) → (tells : List Pair) → ArePairs 1 tells → Stepped n m Asked r (leading n m u l (goes_on n u.heard l) before tells)
  goes_on_step l g before said tells told = leading_step l g (goes_on n u.heard l)
      (turns_placed n (cover_heard u.heard l) (report_heard u.heard l) (is_learnt_heard n u.heard) positions (turn_of l) (turn_placed l g)) before said tells told

  -- a Promise
  promise_step : (older : List Packet) (sender : ℕ) → sender ≤ n → (w : Window) (o : Option Leader) → u.leader ≡ o → Stepped n m Asked r (on_promise n m older u sender w o)
  promise_step older sender most w None e = quiet_step
  promise_step older sender most w (Some l) e = one (joins l.ballot (cover_heard older l sender) w)
    where
      one : (t : Bool) → Stepped n m Asked r (cond t (leading n m u l (goes_on n u.heard l) (asks_on m u.heard l sender) []) (quiet u))
      one true = let g = s.leads l e in goes_on_step l g (asks_on m u.heard l sender) (asks_on_send l g sender most) [] tt
      one false = quiet_step

  -- a leader leads on where proposals are closed
  closes_leads : (l : Leader) → IsLeader n m r l → IsLeader n m r (closes n u.heard l)
  closes_leads l g = record {
    ballot = g.ballot;
    own = g.own;
    kept = g.kept;
    least = g.least;
    most = g.most;
    proposals = of_each (closes n u.heard l).proposals (λ e h. each_of l.proposals g.proposals e (has_filter (λ (x : Pair). not (is_learnt_heard n u.heard x.position)) l.proposals e h));
  }

  -- what is newly learnt
  learns_step : (es : List Pair) → ArePairs 1 es → (o : Option Leader) → u.leader ≡ o → Stepped n m Asked r (learns n m u es o)
  learns_step [] told o e = quiet_step
  learns_step (d ∷ ds) told None e = tells_step [] (d ∷ ds) (λ k h. absurd h) told
  learns_step (d ∷ ds) told (Some l) e = goes_on_step (closes n u.heard l) (closes_leads l (s.leads l e)) [] (λ k h. absurd h) (d ∷ ds) told

  -- one message of a kind that tells of no ballot, to one target
  one_step : (body : Body) (target : ℕ) → IsSender n m body → target ≤ n → IsBody n body → Calls Asked m r target body → Stepped n m Asked r (says u (packet m body target ∷ []))
  one_step body target sender most is calls = says_step _ (to_one Sends (packet m body target) (record { message = record { sender = sender; target = most; body = is }; calls = calls }))

  -- a CatchUp
  catch_up_step : (sender from : ℕ) → sender ≤ n → IsPosition from → Stepped n m Asked r (on_catch_up n m u sender from)
  catch_up_step sender from most here = one (take 8 (learnt_from n (news u.heard) from (suc positions - from)))
      (pairs_take 8 1 (learnt_from n (news u.heard) from (suc positions - from)) (learnt_from_pairs n (news u.heard) 1 from (suc positions - from) here.0 (omega (arith, here.1))))
      (omega (arith, length-take 8 (learnt_from n (news u.heard) from (suc positions - from))))
    where
      one : (es : List Pair) → ArePairs 1 es → length es ≤ 8 → Stepped n m Asked r (says u (chosen_packet m sender es))
      one [] h few = quiet_step
      one (e ∷ es) h few = one_step (Chosen (e ∷ es)) sender (low, high) most (h, omega arith, few) tt

  -- a new request
  new_request_step : (q : Request) (o : Option Leader) → u.leader ≡ o → Stepped n m Asked r (on_new_request n m r u q o)
  new_request_step q None e = one_step (Elsewhere q.client q.number r.promise.member) 0 (low, high) (omega arith) (promised s.kept.promise) tt
    where
      promised : (r.promise ≡ no_ballot) ⊎ IsBallotOf n r.promise → r.promise.member ≤ n
      promised (inl e) = omega (arith, ap (λ (b : Ballot). b.member) e)
      promised (inr b) = b.1
  new_request_step q (Some l) e = one (not (has_open q l.proposals) && has_free_place n (cover_heard u.heard l) (report_heard u.heard l) (is_learnt_heard n u.heard) (turn_of l)) refl
    where
      one : (t : Bool) → (not (has_open q l.proposals) && has_free_place n (cover_heard u.heard l) (report_heard u.heard l) (is_learnt_heard n u.heard) (turn_of l)) ≡ t
          → Stepped n m Asked r (cond t (leading n m u l (proposes (Of q) (turn_of l)) [] []) (quiet u))
      one true h =
          let g = s.leads l e in
          let here = place_is n (cover_heard u.heard l) (turn_of l) (and_parts _ _ (and_parts _ _ h).1).0 in
          leading_step l g (proposes (Of q) (turn_of l)) (proposes_placed (turn_of l) (Of q) here (turn_placed l g)) [] (λ k a. absurd a) [] tt
      one false h = quiet_step

  -- a Submit
  submit_step : (q : Request) (o : Option Kept) → Stepped n m Asked r (on_submit n m r u q o)
  submit_step q (Some reply) = one_step (Reply q.client q.number reply) 0 (low, high) (omega arith) tt tt
  submit_step q None = new_request_step q u.leader refl

  -- an Ask
  ask_step : (app : Application) (q : Question) → Stepped n m Asked r (on_ask app n m u q)
  ask_step app q = one (nat_lt u.applied q.floor)
    where
      one : (t : Bool) → Stepped n m Asked r (cond t (says u (packet m (Behind q.client q.number u.applied) 0 ∷ []))
          (says u (packet m (Answer q.client q.number u.applied (app.answer (values_of n u) q.level q.text)) 0 ∷ [])))
      one true = one_step (Behind q.client q.number u.applied) 0 (low, high) (omega arith) tt tt
      one false = one_step (Answer q.client q.number u.applied (app.answer (values_of n u) q.level q.text)) 0 (low, high) (omega arith) tt tt

  -- each kind of message
  body_step : (app : Application) (older : List Packet) (sender : ℕ) (body : Body) → IsSender n sender body → IsBody n body → ((b : Ballot) (from : ℕ) → body ≡ Prepare b from → Asked b) → Stepped n m Asked r (on_body app n m older r u sender body)
  body_step app older sender (Prepare b from) by is asked = prepare_step b from is.0 is.1 (asked b from refl)
  body_step app older sender (Promise w) by is asked = promise_step older sender by.1 w u.leader refl
  body_step app older sender (Accept p vote) by is asked = accept_step p vote is.0 is.1
  body_step app older sender (Accepted p vote) by is asked = learns_step (newly n (AcceptedBy sender p vote) (news older)) (newly_at_pairs n (AcceptedBy sender p vote) (news older) p is.0) u.leader refl
  body_step app older sender (Chosen pairs) by is asked = learns_step (newly n (ChosenAre pairs) (news older)) (each_newly_pairs n (ChosenAre pairs) (news older) 1 pairs is.0) u.leader refl
  body_step app older sender (CatchUp from) by is asked = catch_up_step sender from by.1 is
  body_step app older sender (Submit q) by is asked = submit_step q (app.reply (values_of n u) q.client q.number)
  body_step app older sender (Ask q) by is asked = ask_step app q
  body_step app older sender body by is asked = quiet_step

  -- a Begin that is not refused
  pub begins_step : n ≤ most_members → may_begin n r u ≡ true → Stepped n m Asked r (begins n m r u)
  begins_step few may = record {
    kept = kept;
    grows = grows;
    runs = runs_as (written (NewPromise (next_ballot m r)) r) kept grows (Some lead) (λ l e. subst (IsLeader n m (written (NewPromise (next_ballot m r)) r)) (same_Some lead l e) leads);
    sends = to_each (MaySend n m Asked (written (NewPromise (next_ballot m r)) r)) m (Prepare (next_ballot m r) (suc (prefix n (news u.heard)))) (up_to n) (λ j q. record {
      message = record { sender = refl; target = up_to_most n j q; body = (is, (omega arith, room)) };
      calls = (refl, below_self (next_ballot m r));
    });
    tells = tt;
  }
    where
      room : prefix n (news u.heard) < positions
      room = ltb-true (prefix n (news u.heard)) positions (and_parts (nat_lt (prefix n (news u.heard)) positions) (nat_lt r.promise.round last_round) may).0

      is : IsBallotOf n (next_ballot m r)
      is = ((omega arith, ltb-true r.promise.round last_round (and_parts (nat_lt (prefix n (news u.heard)) positions) (nat_lt r.promise.round last_round) may).1, low, omega (arith, high, few)), high)

      grows : below (next_ballot m r) r.promise ≡ false
      grows = below_not r.promise (next_ballot m r) (from_under r.promise (next_ballot m r) (omega arith))

      kept : IsRecord n (written (NewPromise (next_ballot m r)) r)
      kept = record { promise = inr is; votes = votes_under (next_ballot m r) grows; learnt = s.kept.learnt }

      lead : Leader
      lead = record { ballot = next_ballot m r; base = prefix n (news u.heard); next = suc (prefix n (news u.heard)); proposals = [] }

      leads : IsLeader n m (written (NewPromise (next_ballot m r)) r) lead
      leads = record { ballot = is; own = refl; kept = below_self (next_ballot m r); least = omega arith; most = omega (arith, room); proposals = of_each [] (λ e h. absurd h) }

  -- a Begin
  pub begin_step : n ≤ most_members → Stepped n m Asked r (on_begin n m r u)
  begin_step few = one (may_begin n r u) refl
    where
      one : (t : Bool) → may_begin n r u ≡ t → Stepped n m Asked r (cond t (begins n m r u) (quiet u))
      one true h = begins_step few h
      one false h = quiet_step

  -- what a leader sends again
  resent_send : (o : Option Leader) → u.leader ≡ o → (k : Packet) → Has (resent n m u.heard o) k → Sends k
  resent_send None e k h = absurd h
  resent_send (Some l) e k h = let g = s.leads l e in ⊎_elim
      (λ (o : Has (accepts n m l.ballot l.proposals) k). accepts_send l g l.proposals (each_of l.proposals g.proposals) k o)
      (λ (o : Has (flat_map (asks_on m u.heard l) (up_to n)) k). let f = has_flat (asks_on m u.heard l) (up_to n) k o in asks_on_send l g f.0 (up_to_most n f.0 f.1) k f.2)
      (has_cases (accepts n m l.ballot l.proposals) (flat_map (asks_on m u.heard l) (up_to n)) k h)

  -- the tick Resend
  pub resend_step : Stepped n m Asked r (on_resend n m u)
  resend_step = says_step _ (resent_send u.leader refl)

  -- the tick Keep
  pub keep_step : Stepped n m Asked r (on_keep n r u)
  keep_step = one (nat_lt (length r.learnt) (prefix n (news u.heard))) refl
    where
      few : (value : Value) → nat_lt (length r.learnt) (prefix n (news u.heard)) ≡ true → length (r.learnt ++ value ∷ []) ≤ positions
      few value h = subst (λ k. k ≤ positions) (sym (length-append r.learnt (value ∷ []))) (omega (arith, ltb-true _ _ h, prefix_limit n (news u.heard)))

      kept : (value : Value) → nat_lt (length r.learnt) (prefix n (news u.heard)) ≡ true → IsRecord n (written (NewLearnt value) r)
      kept value h = record { promise = s.kept.promise; votes = s.kept.votes; learnt = few value h }

      two : (o : Option Value) → nat_lt (length r.learnt) (prefix n (news u.heard)) ≡ true → Stepped n m Asked r (keeping u o)
      two None h = quiet_step
      two (Some value) h = record {
        kept = kept value h;
        grows = below_self r.promise;
        runs = λ v e. subst (IsState n m (written (NewLearnt value) r)) (same_Some u v e) (record {
          kept = kept value h;
          leads = λ l q. let g = s.leads l q in record { ballot = g.ballot; own = g.own; kept = g.kept; least = g.least; most = g.most; proposals = g.proposals };
          heard = λ k o. called_still r (written (NewLearnt value) r) k.body (below_self r.promise) (s.heard k o);
        });
        sends = λ k o. absurd o;
        tells = tt;
      }

      one : (c : Bool) → nat_lt (length r.learnt) (prefix n (news u.heard)) ≡ c → Stepped n m Asked r (keeping u (cond c (learnt n (suc (length r.learnt)) (news u.heard)) None))
      one true h = two (learnt n (suc (length r.learnt)) (news u.heard)) h
      one false h = quiet_step

  -- the tick CatchUp
  pub catch_up_tick_step : Stepped n m Asked r (on_catch_up_tick n m u)
  catch_up_tick_step = says_step _ (one (nat_lt (prefix n (news u.heard)) positions) refl)
    where
      one : (t : Bool) → nat_lt (prefix n (news u.heard)) positions ≡ t → (k : Packet) → Has (cond t (map (packet m (CatchUp (suc (prefix n (news u.heard))))) (filter (λ j. not (j == m)) (up_to n))) []) k → Sends k
      one true q k h = to_each Sends m (CatchUp (suc (prefix n (news u.heard)))) (filter (λ j. not (j == m)) (up_to n)) (λ j o. record {
        message = record { sender = (low, high); target = up_to_most n j (has_filter (λ j. not (j == m)) (up_to n) j o); body = (omega arith, ltb-true (prefix n (news u.heard)) positions q) };
        calls = tt;
      }) k h
      one false q k h = absurd h

-- a member that has heard one more message
hears : (n m : ℕ) (r : Record) (u : Running) (k : Packet) → IsCalledFor r k.body → IsState n m r u → IsState n m r (record { heard = k ∷ u.heard; leader = u.leader; applied = u.applied })
hears n m r u k called s = record { kept = s.kept; leads = s.leads; heard = λ j h. ⊎_elim (λ (e : k ≡ j). subst (λ (x : Packet). IsCalledFor r x.body) e called) (λ (o : Has u.heard j). s.heard j o) h }

-- what is called for, by the test
called_if : (r : Record) (body : Body) → is_called_for r body ≡ true → IsCalledFor r body
called_if r (Promise w) h = one (below r.promise w.ballot) h
  where
    one : (t : Bool) → not t ≡ true → t ≡ false
    one false e = refl
    one true e = absurd (let f : false ≡ true = e in cc)
called_if r body h = tt

-- a message
pub message_step : (n m : ℕ) → 1 ≤ m → m ≤ n → (Asked : Ballot → Type 0) (r : Record) (u : Running) (app : Application) (k : Packet) → IsMessage n k → ((b : Ballot) (from : ℕ) → k.body ≡ Prepare b from → Asked b)
    → IsState n m r u → Stepped n m Asked r (on_message app n m k r u)
message_step n m low high Asked r u app k is asked s = one (is_called_for r k.body) refl
  where
    one : (t : Bool) → is_called_for r k.body ≡ t
        → Stepped n m Asked r (cond t (on_body app n m u.heard r (record { heard = k ∷ u.heard; leader = u.leader; applied = u.applied }) k.sender k.body) (quiet u))
    one true e = body_step n m low high Asked r (record { heard = k ∷ u.heard; leader = u.leader; applied = u.applied }) (hears n m r u k (called_if r k.body e) s)
        app u.heard k.sender k.body is.sender is.body asked
    one false e = quiet_step n m low high Asked r u s

-- A message that may be sent to a member is answered by a well-formed step.
pub message_is_step : (app : Application) (n m : ℕ) (k : Packet) (r : Record) (u : Running) → 1 ≤ m → m ≤ n → n ≤ most_members → IsMessage n k → IsState n m r u → IsStep n m r (on_message app n m k r u)
message_is_step app n m k r u low high few is s = is_step n m (λ b. Unit {0}) r _ (message_step n m low high (λ b. Unit {0}) r u app k is (λ b from e. tt) s)

-- A Begin is a well-formed step.
pub begin_is_step : (n m : ℕ) (r : Record) (u : Running) → 1 ≤ m → m ≤ n → n ≤ most_members → IsState n m r u → IsStep n m r (on_begin n m r u)
begin_is_step n m r u low high few s = is_step n m (λ b. Unit {0}) r _ (begin_step n m low high (λ b. Unit {0}) r u s few)

-- So is the tick Resend.
pub resend_is_step : (n m : ℕ) (r : Record) (u : Running) → 1 ≤ m → m ≤ n → n ≤ most_members → IsState n m r u → IsStep n m r (on_resend n m u)
resend_is_step n m r u low high few s = is_step n m (λ b. Unit {0}) r _ (resend_step n m low high (λ b. Unit {0}) r u s)

-- So is the tick CatchUp.
pub catch_up_is_step : (n m : ℕ) (r : Record) (u : Running) → 1 ≤ m → m ≤ n → n ≤ most_members → IsState n m r u → IsStep n m r (on_catch_up_tick n m u)
catch_up_is_step n m r u low high few s = is_step n m (λ b. Unit {0}) r _ (catch_up_tick_step n m low high (λ b. Unit {0}) r u s)

-- So is the tick Keep.
pub keep_is_step : (n m : ℕ) (r : Record) (u : Running) → 1 ≤ m → m ≤ n → n ≤ most_members → IsState n m r u → IsStep n m r (on_keep n r u)
keep_is_step n m r u low high few s = is_step n m (λ b. Unit {0}) r _ (keep_step n m low high (λ b. Unit {0}) r u s)
