-- Every event keeps the invariant, so it holds after every list of events; agreement and P2c follow.
use Rattle.std.proofs.Common.{◌<◌, ◌≡◌, ℕ, zero, suc, ◌+◌, nat_lt, ◌≤◌, Bool, true, false, cond, arith, refl, ◌⊎◌, inl, inr, sym, subst, ap, ◌∙◌, Option, Some, None, ⊎_elim, List, [], ◌∷◌, ◌++◌, length, ap₂, option_to_list}
use Rattle.std.proofs.lemmas.Option.{none-some, same_Some}
use Rattle.paxos.specs.Lists.{at, Has}
use Rattle.ballots.specs.Ballot.{below}
use Rattle.ballots.specs.declared.value.Value.{Value}
use Rattle.ballots.specs.declared.value.Vote.{Vote}
use Rattle.ballots.specs.declared.value.Pair.{Pair}
use Rattle.ballots.specs.Messages.{Packet, packet, Body, Promise, Accept, Accepted, Chosen, Submit, Ask}
use Rattle.paxos.specs.Application.{Application}
use Rattle.paxos.specs.Records.{Record, vote_at}
use Rattle.paxos.specs.Knowledge.{news, learnt, pair_of, numbered, prefix, values_to}
use Rattle.paxos.specs.Step.{Running, Effect, quiet, on_message, may_begin, begins, on_begin, keeping, on_keep, resumed}
use Rattle.paxos.specs.World.{Member, World, told_to, started, fresh, start, Event, Deliver, Begin, Resend, CatchUp, Keep, Submits, Asks, StopInDeliver, StopInBegin, StopInKeep, Stop, Start, Choice, keeps_in, stops_in, settles, runs, takes, acts, delivers, begins_in, asks, restarts, starts, happens, Happening, run, Run}
use Rattle.paxos.specs.Agreement.{HasVoted, IsChosen, IsTold, Agreement, IsRunning}
use Rattle.paxos.specs.Proposable.{IsFree, IsOfHighest, IsProposable, IsIssued, P2c}
use Rattle.paxos.proofs.Order.{below_self}
use Rattle.paxos.proofs.Safe.{NotAbove, above_trans, Backed, accepted_one}
use Rattle.paxos.proofs.Moves.{Moves, safe_after}
use Rattle.paxos.proofs.Lists.{has_left, has_cases, at_has, at_replicate}
use Rattle.paxos.proofs.News.{prefix_learnt}
use Rattle.paxos.proofs.Kept.{kept_in, slot_of, Voted, Asked, Reported, reports_in, TellsChosen, MayHear, Holds, Invariant, invariant_after}
use Rattle.paxos.proofs.Effects.{Stands, Good, None_new, nothing_new, plain_good, same_heard, same_applied, same_told, quiet_good, stops_in_good, applies_good, settles_good, resumed_good}
use Rattle.paxos.proofs.Leading.{begins_good, begin_good, resend_good}
use Rattle.paxos.proofs.Answering.{message_good, catch_up_tick_good}

-- where a member is there, there is one
some_member : (ms : List Member) (m : ℕ) (x : Member) → at ms m ≡ Some x → (k : ℕ) × (length ms ≡ suc k)
some_member ms zero x h = absurd (none-some x h)
some_member [] (suc i) x h = absurd (none-some x h)
some_member (y ∷ ms) (suc i) x h = (length ms, refl)

-- a running member stands
stands : (w : World) → Invariant w → (m : ℕ) (x : Member) (u : Running) → at w.members m ≡ Some x → x.running ≡ Some u → Stands w m x.kept u []
stands w i m x u h r = record {
  invariant = i;
  some = some_member w.members m x h;
  kept = ap kept_in h;
  holds = i.holds m x h;
  leads = λ l k. i.leads m x u l h r k;
  heard = λ p k. i.heard m x u p h r k;
  applied = i.applied m x u h r;
  told = λ p value l. inl (i.learnt m x u p value h r l);
}

-- a step is good wherever a running member takes it
acts_keeps : (w : World) → Invariant w → (m : ℕ) (step : Record → Running → Effect) → ((r : Record) (u : Running) → Stands w m r u [] → Good w m r (step r u)) → Invariant (acts w m step)
acts_keeps w i m step good = taken (at w.members m) refl
  where
    ran : (x : Member) → at w.members m ≡ Some x → (o : Option Running) → x.running ≡ o → Invariant (runs w m x.kept step o)
    ran x h None r = i
    ran x h (Some u) r = let g = good x.kept u (stands w i m x u h r) in invariant_after w m x g.New (step x.kept u) i h g.fine

    taken : (o : Option Member) → at w.members m ≡ o → Invariant (takes w m step o)
    taken None h = i
    taken (Some x) h = ran x h x.running refl

-- a delivery
delivers_keeps : (w : World) → Invariant w → (app : Application) (how : Effect → Effect)
    → ((m : ℕ) (r : Record) (e : Effect) → Holds w m r → Good w m r e → Good w m r (how e))
    → (o : Option Packet) → ((k : Packet) → o ≡ Some k → Has w.sent k) → Invariant (delivers app w how o)
delivers_keeps w i app how keeps None h = i
delivers_keeps w i app how keeps (Some k) h = acts_keeps w i k.target (λ r u. how (on_message app (length w.members) k.target k r u))
    (λ r u s. keeps k.target r (on_message app (length w.members) k.target k r u) s.holds (message_good w k.target r u app k (h k refl) s))

-- a Begin, with what it leaves open
begins_in_good : (w : World) (c : Choice) (m : ℕ) (r : Record) (u : Running) → Stands w m r u [] → Good w m r (begins_in w c m r u)
begins_in_good w c m r u s = one (may_begin (length w.members) r u)
  where
    one : (t : Bool) → Good w m r (cond t (settles (length w.members) c (begins (length w.members) m r u)) (quiet u))
    one true = settles_good w m r c _ s.holds (begins_good w m r u s)
    one false = quiet_good w m r u s

-- a start of a member that is there
restarts_keeps : (w : World) → Invariant w → (fails : Option Bool) (k m : ℕ) (x : Member) → at w.members m ≡ Some x → (o : Option Running) → Invariant (restarts w fails k m x.kept o)
restarts_keeps w i fails k m x h (Some u) = i
restarts_keeps w i (Some kept) k m x h None = i
restarts_keeps w i None k m x h None = let g = applies_good w m x.kept k (quiet (resumed m x.kept)) (resumed_good w i m x.kept (i.holds m x h)) in invariant_after w m x g.New _ i h g.fine

-- a start
starts_keeps : (w : World) → Invariant w → (c : Choice) (m : ℕ) (o : Option Member) → at w.members m ≡ o → Invariant (starts w c m o)
starts_keeps w i c m None h = i
starts_keeps w i c m (Some x) h = restarts_keeps w i c.fails c.applied m x h x.running

-- what is kept at the end of a list of values
kept_last : (p : ℕ) (values : List Value) (value : Value) (e : Pair) → Has (numbered p (values ++ value ∷ [])) e → Has (numbered p values) e ⊎ (e ≡ pair_of (p + length values) value)
kept_last p [] value e (inl q) = inr (sym q ∙ ap (λ x. pair_of x value) (omega arith))
kept_last p [] value e (inr h) = absurd h
kept_last p (v ∷ values) value e (inl q) = inl (inl q)
kept_last p (v ∷ values) value e (inr h) = ⊎_elim
    (λ (o : Has (numbered (suc p) values) e). inl (inr o))
    (λ (q : e ≡ pair_of (suc p + length values) value). inr (q ∙ ap (λ x. pair_of x value) (omega arith)))
    (kept_last (suc p) values value e h)

-- a learnt value that is kept was told
keep_good : (w : World) (m : ℕ) (r : Record) (u : Running) → Stands w m r u [] → Good w m r (on_keep (length w.members) r u)
keep_good w m r u s = one (nat_lt (length r.learnt) (prefix (length w.members) (news u.heard)))
  where
    next : ℕ
    next = suc (length r.learnt)

    writes_good : (value : Value) → learnt (length w.members) next (news u.heard) ≡ Some value → Good w m r (keeping u (Some value))
    writes_good value l = plain_good w m r _ s.holds (record {
      votes = refl;
      told = λ t h. ⊎_elim
          (λ (o : Has (numbered 1 r.learnt) t). s.holds.told t o)
          (λ (q : t ≡ pair_of (1 + length r.learnt) value). subst (λ (x : Pair). Has w.told (told_to m x)) (sym (q ∙ at_next value)) (was_told value l))
          (kept_last 1 r.learnt value t h);
      casts = λ c h. h;
      grows = below_self r.promise;
      sends = λ k h. absurd h;
      leads = λ v l e h. let g = s.leads l (ap (λ (x : Running). x.leader) (same_Some u v e) ∙ h) in record { own = g.own; kept = g.kept; based = g.based; asked = g.asked; proposed = g.proposed };
      heard = λ v k e h. same_heard w m r u [] s u.leader v k e h;
      applied = λ v e. same_applied w m r u [] s u.leader v e;
      learnt = λ v p value e l. same_told w m r u [] s u.leader v e p value l;
      tells = λ t h. absurd h;
    })
      where
        at_next : (value : Value) → pair_of (1 + length r.learnt) value ≡ pair_of next value
        at_next value = ap (λ x. pair_of x value) (omega arith)

        was_told : (value : Value) → learnt (length w.members) next (news u.heard) ≡ Some value → Has w.told (told_to m (pair_of next value))
        was_told value l = ⊎_elim (λ (o : Has w.told (told_to m (pair_of next value))). o) (λ (o : ⊥). absurd o) (s.told next value l)

    two : (o : Option Value) → learnt (length w.members) next (news u.heard) ≡ o → Good w m r (keeping u o)
    two None e = quiet_good w m r u s
    two (Some value) e = writes_good value e

    one : (c : Bool) → Good w m r (keeping u (cond c (learnt (length w.members) next (news u.heard)) None))
    one true = two (learnt (length w.members) next (news u.heard)) refl
    one false = quiet_good w m r u s

-- a kind of message that the acceptors, leaders and learners don't send one another
abbrev IsPlain : Body → Type 0
IsPlain (Promise x) = ⊥
IsPlain (Accept p v) = ⊥
IsPlain (Accepted p v) = ⊥
IsPlain (Chosen pairs) = ⊥
IsPlain body = Unit {0}

-- such a message more among those sent
module _ (w : World) (m : ℕ) (body : Body) (plain : IsPlain body) (i : Invariant w) where
  -- the world with the message more
  more : World
  more = record { members = w.members; sent = w.sent ++ packet 0 body m ∷ []; votes = w.votes; told = w.told }

  -- of another kind nothing is new
  still : (k : Packet) (other : Body) → (IsPlain other → ⊥) → Has more.sent k → k.body ≡ other → Has w.sent k
  unfolding more
  still k other d h e = ⊎_elim
      (λ (o : Has w.sent k). o)
      (λ (o : Has (packet 0 body m ∷ []) k). ⊎_elim (λ (q : packet 0 body m ≡ k). absurd (d (subst IsPlain (ap (λ (x : Packet). x.body) q ∙ e) plain))) (λ (n : ⊥). absurd n) o)
      (has_cases w.sent (packet 0 body m ∷ []) k h)

  -- what was sent stays
  grown : (k : Packet) → Has w.sent k → Has more.sent k
  unfolding more
  grown k h = has_left w.sent (packet 0 body m ∷ []) k h

  -- nothing more is asked for
  asked_before : (p : ℕ) (v : Vote) → Asked more p v → Asked w p v
  asked_before p v a = record { packet = a.packet; sent = still a.packet (Accept p v) (λ x. x) a.sent a.body; body = a.body }

  -- what was asked for stays
  asked_more : (p : ℕ) (v : Vote) → Asked w p v → Asked more p v
  asked_more p v a = record { packet = a.packet; sent = grown a.packet a.sent; body = a.body }

  -- the message at one position
  moves_more : (p : ℕ) → Moves (length w.members) m (None_new p) (slot_of w p) (slot_of w p) (Voted w p) (Voted w p) (Asked w p) (Asked more p) (Reported w p) (Reported more p)
  moves_more p = record {
    other = λ k d. refl;
    leaves = record { grows = below_self (slot_of w p m).promise; vote = inl refl };
    voted_old = λ k v h. h;
    voted_new = λ v h. (i.safe p).kept_voted m v h;
    voted_is = λ k v h. inl h;
    asked_old = λ v a. asked_more p v a;
    asked_is = λ v a. inl (asked_before p v a);
    new_one = λ v x h k. nothing_new p v h;
    may_ask = λ v h. nothing_new p v h;
    reported_old = λ k b r h. reports_in w.sent more.sent p k b r h (grown h.packet h.sent);
    reported_is = λ k b r h. inl (reports_in more.sent w.sent p k b r h (still h.packet (Promise h.window) (λ x. x) h.sent h.body));
  }

  -- what is chosen stays
  chosen_more : (p : ℕ) (value : Value) → IsChosen w p value → IsChosen more p value
  unfolding more
  chosen_more p value c = record { ballot = c.ballot; set = c.set; majority = c.majority; voted = c.voted }

  -- what may be heard stays
  hear_more : (k : Packet) → MayHear w k → MayHear more k
  hear_more k (inl o) = inl (grown k o)
  hear_more k (inr t) = inr (tells k.body t)
    where
      tells : (b : Body) → TellsChosen w b → TellsChosen more b
      tells (Chosen pairs) h = λ d o. chosen_more d.position d.value (h d o)
      tells b h = absurd h

  -- the message more keeps the invariant
  more_keeps : Invariant more
  unfolding more
  more_keeps = record {
    safe = λ p. safe_after (length w.members) m (None_new p) (slot_of w p) (slot_of w p) (Voted w p) (Voted w p) (Asked w p) (Asked more p) (Reported w p) (Reported more p) (i.safe p) (moves_more p);
    holds = λ k x h. let g = i.holds k x h in record { rising = g.rising; told = g.told };
    leads = λ k x u l h r q. let g = i.leads k x u l h r q in record {
      own = g.own;
      kept = g.kept;
      based = g.based;
      asked = λ p v a b. g.asked p v (asked_before p v a) b;
      proposed = λ p value a. asked_more p _ (g.proposed p value a);
    };
    heard = λ k x u p h r q. hear_more p (i.heard k x u p h r q);
    applied = i.applied;
    learnt = i.learnt;
    accepted = λ k p v h e. i.accepted k p v (still k (Accepted p v) (λ x. x) h e) e;
    chosen = λ k pairs e h q a. chosen_more e.position e.value (i.chosen k pairs e (still k (Chosen pairs) (λ x. x) h q) q a);
    told = λ k e h. chosen_more e.position e.value (i.told k e h);
  }

-- a client's message
asks_keeps : (w : World) → Invariant w → (m : ℕ) (body : Body) → IsPlain body → (o : Option Member) → Invariant (asks w m body o)
unfolding more
asks_keeps w i m body plain None = i
asks_keeps w i m body plain (Some x) = more_keeps w m body plain i

-- each event keeps the invariant
happens_keeps : (app : Application) (w : World) (c : Choice) (e : Event) → Invariant w → Invariant (happens app w c e)
happens_keeps app w c (Deliver k) i = delivers_keeps w i app (settles (length w.members) c) (λ m r e holds g. settles_good w m r c e holds g) (at w.sent k) (λ p h. at_has w.sent k p h)
happens_keeps app w c (Begin m) i = acts_keeps w i m (begins_in w c m) (λ r u s. begins_in_good w c m r u s)
happens_keeps app w c (Resend m) i = acts_keeps w i m _ (λ r u s. settles_good w m r c _ s.holds (resend_good w m r u s))
happens_keeps app w c (CatchUp m) i = acts_keeps w i m _ (λ r u s. settles_good w m r c _ s.holds (catch_up_tick_good w m r u s))
happens_keeps app w c (Keep m) i = acts_keeps w i m _ (λ r u s. settles_good w m r c _ s.holds (keep_good w m r u s))
happens_keeps app w c (Submits m q) i = asks_keeps w i m (Submit q) tt (at w.members m)
happens_keeps app w c (Asks m q) i = asks_keeps w i m (Ask q) tt (at w.members m)
happens_keeps app w c (StopInDeliver k kept) i = delivers_keeps w i app (stops_in (keeps_in c.fails kept)) (λ m r e holds g. stops_in_good w m r (keeps_in c.fails kept) e holds g) (at w.sent k) (λ p h. at_has w.sent k p h)
happens_keeps app w c (StopInBegin m kept) i = acts_keeps w i m _ (λ r u s. stops_in_good w m r (keeps_in c.fails kept) (on_begin (length w.members) m r u) s.holds (begin_good w m r u s))
happens_keeps app w c (StopInKeep m kept) i = acts_keeps w i m _ (λ r u s. stops_in_good w m r (keeps_in c.fails kept) (on_keep (length w.members) r u) s.holds (keep_good w m r u s))
happens_keeps app w c (Stop m) i = acts_keeps w i m _ (λ r u s. stops_in_good w m r false (quiet u) s.holds (quiet_good w m r u s))
happens_keeps app w c (Start m) i = starts_keeps w i c m (at w.members m) refl

-- so does each list of events
run_keeps : (app : Application) (w : World) (hs : List Happening) → Invariant w → Invariant (run app w hs)
run_keeps app w [] i = i
run_keeps app w (h ∷ hs) i = run_keeps app (happens app w h.choice h.event) hs (happens_keeps app w h.choice h.event i)

-- the invariant holds at the start
start_holds : (n : ℕ) → Invariant (start n)
start_holds n = record {
  safe = λ p. record {
    voted_kept = λ m v h. absurd h;
    kept_promised = λ m v e. absurd (none-some v (sym (nobody p m (at (start n).members m) refl) ∙ e));
    kept_voted = λ m v e. absurd (none-some v (sym (nobody p m (at (start n).members m) refl) ∙ e));
    voted_asked = λ m v h. absurd h;
    reported_promised = λ m b r h. absurd h.sent;
    reported_most = λ m b v h. absurd h.sent;
    reported_voted = λ m b v h. absurd h.sent;
    reported_highest = λ m b r v h k l. absurd h.sent;
    asked_promised = λ v h. absurd h.sent;
    asked_one = λ v w h k e. absurd h.sent;
    asked_backed = λ v h. absurd h.sent;
  };
  holds = λ m x h. subst (λ (y : Member). Holds (start n) m y.kept) (at_replicate n m fresh x h) (record { rising = tt; told = λ e o. absurd o });
  leads = λ m x u l h r k. absurd (none-some l (ap (λ (y : Running). y.leader) (is_started m x u h r) ∙ k));
  heard = λ m x u p h r k. absurd (subst (λ (y : Running). Has y.heard p) (sym (is_started m x u h r)) k);
  applied = λ m x u h r. subst (λ (y : Running). y.applied ≤ prefix (length (start n).members) (news y.heard)) (is_started m x u h r) (omega arith);
  learnt = λ m x u p value h r l. absurd (none-some value (subst (λ (y : Running). learnt (length (start n).members) p (news y.heard) ≡ Some value) (sym (is_started m x u h r)) l));
  accepted = λ k p v h e. absurd h;
  chosen = λ k pairs e h q a. absurd h;
  told = λ m e h. absurd h;
}
  where
    is_started : (m : ℕ) (x : Member) (u : Running) → at (start n).members m ≡ Some x → x.running ≡ Some u → started ≡ u
    is_started m x u h r = same_Some _ _ (ap (λ (y : Member). y.running) (at_replicate n m fresh x h) ∙ r)

    nobody : (p m : ℕ) (o : Option Member) → at (start n).members m ≡ o → (slot_of (start n) p m).vote ≡ None
    nobody p m None h = rw h refl
    nobody p m (Some x) h = rw h (subst (λ (y : Member). vote_at p y.kept.votes ≡ None) (at_replicate n m fresh x h) refl)

-- what holds after every list of events
always : (app : Application) (n : ℕ) (hs : List Happening) → Invariant (run app (start n) hs)
always app n hs = run_keeps app (start n) hs (start_holds n)

module _ (w : World) (i : Invariant w) where
  -- no position has two chosen values
  one_chosen : (p : ℕ) (a b : Value) → IsChosen w p a → IsChosen w p b → a ≡ b
  one_chosen p a b c d =
      accepted_one (length w.members) (slot_of w p) (Voted w p) (Asked w p) (Reported w p) (i.safe p)
      (record { ballot = c.ballot; value = a }) (record { ballot = d.ballot; value = b })
      (record { set = c.set; majority = c.majority; voted = c.voted }) (record { set = d.set; majority = d.majority; voted = d.voted })

  -- what is told is chosen
  told_chosen : (m p : ℕ) (value : Value) → IsTold w m p value → IsChosen w p value
  told_chosen m p value h = i.told m (record { position = p; value = value }) h

  -- what is learnt was told
  learnt_told : (m p : ℕ) (u : Running) (value : Value) → IsRunning w m u → learnt (length w.members) p (news u.heard) ≡ Some value → IsTold w m p value
  learnt_told m p u value r l = i.learnt m r.is u p value r.there r.running l

  -- what is applied is learnt
  applied_learnt : (m p : ℕ) (u : Running) → IsRunning w m u → 0 < p → p ≤ u.applied → (value : Value) × (learnt (length w.members) p (news u.heard) ≡ Some value)
  applied_learnt m p u r l h = prefix_learnt (length w.members) (news u.heard) p l (let most = i.applied m r.is u r.there r.running in omega arith)

  -- members that applied as many positions applied the same values
  same_values : (k m j : ℕ) (u v : Running) → IsRunning w k u → IsRunning w m v → j ≤ u.applied → j ≤ v.applied → values_to (length w.members) (news u.heard) j ≡ values_to (length w.members) (news v.heard) j
  same_values k m zero u v r s a b = refl
  same_values k m (suc j) u v r s a b =
      let x = applied_learnt k (suc j) u r (omega arith) a in
      let y = applied_learnt m (suc j) v s (omega arith) b in
      let e = one_chosen (suc j) x.0 y.0 (told_chosen k (suc j) x.0 (learnt_told k (suc j) u x.0 r x.1)) (told_chosen m (suc j) y.0 (learnt_told m (suc j) v y.0 s y.1)) in
      ap₂ (λ (vs : List Value) (o : Option Value). vs ++ option_to_list o) (same_values k m j u v r s (omega arith) (omega arith)) (x.1 ∙ ap Some e ∙ sym y.1)

  -- agreement, from the invariant
  agrees : Agreement w
  agrees = record {
    one_value = one_chosen;
    told = told_chosen;
    told_one = λ k m p a b h q. one_chosen p a b (told_chosen k p a h) (told_chosen m p b q);
    learnt = learnt_told;
    kept = λ m x e h o. (i.holds m x h).told e o;
    applied = applied_learnt;
    same_values = same_values;
  }

  -- the votes of the quorum below the ballot, against the report that counts
  most : (p : ℕ) (vote : Vote) (k : Backed (length w.members) (Reported w p) vote) (m : ℕ) (v : Vote) → k.quorum m ≡ true → HasVoted w m p v → below v.ballot vote.ballot ≡ true → NotAbove (Some v) k.top
  most p vote k m v q h l =
      let r = k.each m q in
      above_trans (Some v) r.0 k.top ((i.safe p).reported_highest m vote.ballot r.0 v r.1 h l) r.2

  -- the set is free, or bound to the highest report
  free_or_bound : (p : ℕ) (vote : Vote) (k : Backed (length w.members) (Reported w p) vote) (top : Option Vote) → k.top ≡ top → IsFree w k.quorum vote.ballot p ⊎ IsOfHighest w k.quorum vote.ballot p vote.value
  free_or_bound p vote k None e = inl (λ m v q h. one m v q h (below v.ballot vote.ballot) refl)
    where
      one : (m : ℕ) (v : Vote) → k.quorum m ≡ true → HasVoted w m p v → (t : Bool) → below v.ballot vote.ballot ≡ t → below v.ballot vote.ballot ≡ false
      one m v q h true l = absurd (subst (NotAbove (Some v)) e (most p vote k m v q h l))
      one m v q h false l = l
  free_or_bound p vote k (Some t) e = let h = k.held t e in inr (record {
    highest = t;
    same_value = h.same_value;
    lower = h.lower;
    member = h.member;
    in_set = h.in_quorum;
    accepted = (i.safe p).reported_voted h.member vote.ballot t h.reported;
    reported = h.reported;
    most = λ m v q a l. subst (NotAbove (Some v)) e (most p vote k m v q a l);
  })

  -- each proposal has its reason
  proposable : (p : ℕ) (vote : Vote) → IsIssued w p vote → IsProposable w p vote
  proposable p vote a = let k = (i.safe p).asked_backed vote a in record {
    set = k.quorum;
    majority = k.majority;
    promised = λ m q. let r = k.each m q in (r.0, r.1);
    free_or_bound = free_or_bound p vote k k.top refl;
  }

  -- P2c, from the invariant
  p2c : P2c w
  p2c = record { proposable = proposable; one_value = λ p a b h k e. (i.safe p).asked_one a b h k e }

-- Agreement after every list of events.
pub run_agrees : (app : Application) (n : ℕ) (hs : List Happening) → Agreement (run app (start n) hs)
run_agrees app n hs = agrees (run app (start n) hs) (always app n hs)

-- P2c after every list of events.
pub run_p2c : (app : Application) (n : ℕ) (hs : List Happening) → P2c (run app (start n) hs)
run_p2c app n hs = p2c (run app (start n) hs) (always app n hs)

-- Agreement after each run of the events.
pub each_run_agrees : (app : Application) (n : ℕ) (events : List Event) (end : World) → Run app (start n) events end → Agreement end
each_run_agrees app n events end r = subst Agreement r.2 (run_agrees app n r.0)
