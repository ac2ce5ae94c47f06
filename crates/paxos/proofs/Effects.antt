-- What makes a step of one member keep the invariant.
use Rattle.std.proofs.Common.{◌≡◌, ℕ, suc, ◌≤◌, Bool, true, false, cond, arith, refl, ◌⊎◌, inl, inr, sym, subst, ap, ◌∙◌, Option, Some, None, ⊎_elim, List, [], ◌∷◌, map, length, ◌&&◌, nat_le}
use Rattle.std.specs.Prelude.{option_map}
use Rattle.std.proofs.lemmas.Bool.{and_parts, leb-true}
use Rattle.std.proofs.lemmas.Option.{none-some, same_Some}
use Rattle.paxos.specs.Lists.{at, Has}
use Rattle.ballots.specs.Ballot.{below}
use Rattle.ballots.specs.declared.value.Value.{Value}
use Rattle.ballots.specs.declared.value.Vote.{Vote}
use Rattle.ballots.specs.declared.value.Entry.{Entry}
use Rattle.ballots.specs.declared.value.Pair.{Pair}
use Rattle.ballots.specs.Messages.{Packet, packet, Body, Accepted, Chosen}
use Rattle.paxos.specs.Records.{Record, vote_at, Nothing, writes, written}
use Rattle.paxos.specs.Knowledge.{AcceptedBy, ChosenAre, news, learnt as learnt_at, pair_of, numbered, prefix}
use Rattle.paxos.specs.Step.{Leader, Running, Effect, says, quiet, chosen_packet, resumed}
use Rattle.paxos.specs.World.{told_to, casts, World, Choice, stops_in, may_fail, applies_to, applies, settles}
use Rattle.paxos.specs.Agreement.{IsChosen}
use Rattle.paxos.proofs.Order.{below_self}
use Rattle.paxos.proofs.Lists.{has_map}
use Rattle.paxos.proofs.Votes.{Rising}
use Rattle.paxos.proofs.News.{IsTruth, pair_has, news_given, said_accepted, said_chosen}
use Rattle.paxos.proofs.Kept.{kept_in, Asked, Leads, TellsChosen, MayHear, Holds, Invariant, MaySay, Asks, Fine}

-- a member that keeps r and runs as u, perhaps with a message heard that it hasn't answered yet; owed is what it wasn't told yet
pub record Stands (w : World) (m : ℕ) (r : Record) (u : Running) (owed : List Pair) : Type 0 where
  pub invariant : Invariant w
  pub some : (k : ℕ) × (length w.members ≡ suc k)
  pub kept : kept_in (at w.members m) ≡ r
  pub holds : Holds w m r
  pub leads : (l : Leader) → u.leader ≡ Some l → Leads (Asked w) (Asked w) m r l
  pub heard : (k : Packet) → Has u.heard k → MayHear w k
  pub applied : u.applied ≤ prefix (length w.members) (news u.heard)
  pub told : (p : ℕ) (value : Value) → learnt_at (length w.members) p (news u.heard) ≡ Some value → Has w.told (told_to m (pair_of p value)) ⊎ Has owed (pair_of p value)

-- nothing is newly asked for
pub None_new : ℕ → Vote → Type 0
None_new p v = ⊥

-- a step that keeps the invariant, with what it newly asks for
pub record Good (w : World) (m : ℕ) (r : Record) (e : Effect) : Type 1 where
  pub New : ℕ → Vote → Type 0
  pub fine : Fine w m r New e

-- a leader leads on where nothing is newly asked for
pub weaker_leads : (w : World) (e : Effect) (m : ℕ) (r : Record) (l : Leader) → Leads (Asked w) (Asked w) m r l → Leads (λ p v. Asked w p v ⊎ None_new p v) (λ p v. Asked w p v ⊎ Asks e p v) m r l
unfolding None_new
weaker_leads w e m r l h = record {
  own = h.own;
  kept = h.kept;
  based = h.based;
  asked = λ p v a q. ⊎_elim (λ (o : Asked w p v). h.asked p v o q) (λ (o : ⊥). absurd o) a;
  proposed = λ p value a. inl (h.proposed p value a);
}

-- what is nothing gives anything
pub nothing_new : {A : Type 0} (p : ℕ) (v : Vote) → None_new p v → A
unfolding None_new
nothing_new p v h = absurd h

-- a step that writes no vote and asks for none
pub record Plain (w : World) (m : ℕ) (r : Record) (e : Effect) : Type 0 where
  pub votes : (written e.write r).votes ≡ r.votes
  pub told : (t : Pair) → Has (numbered 1 (written e.write r).learnt) t → Has w.told (told_to m t)
  pub casts : (c : Entry) → Has (casts e.write) c → ⊥
  pub grows : below (written e.write r).promise r.promise ≡ false
  pub sends : (k : Packet) → Has e.sends k → (k.sender ≡ m) × MaySay w None_new (written e.write r) k.body
  pub leads : (u : Running) (l : Leader) → e.running ≡ Some u → u.leader ≡ Some l → Leads (Asked w) (Asked w) m (written e.write r) l
  pub heard : (u : Running) (k : Packet) → e.running ≡ Some u → Has u.heard k → MayHear w k
  pub applied : (u : Running) → e.running ≡ Some u → u.applied ≤ prefix (length w.members) (news u.heard)
  pub learnt : (u : Running) (p : ℕ) (value : Value) → e.running ≡ Some u → learnt_at (length w.members) p (news u.heard) ≡ Some value → Has w.told (told_to m (pair_of p value)) ⊎ Has e.tells (pair_of p value)
  pub tells : (t : Pair) → Has e.tells t → IsChosen w t.position t.value

-- a plain step is good
pub plain_good : (w : World) (m : ℕ) (r : Record) (e : Effect) → Holds w m r → Plain w m r e → Good w m r e
unfolding None_new
plain_good w m r e holds c = record {
  New = None_new;
  fine = record {
    leaves = λ p. record { grows = c.grows; vote = inl (ap (vote_at p) c.votes) };
    holds = record { rising = subst Rising (sym c.votes) holds.rising; told = c.told };
    casts_new = λ p v h. inl (sym (ap (vote_at p) c.votes) ∙ h);
    casts_are = λ p v h. absurd (c.casts _ h);
    sends = c.sends;
    may_ask = λ p v h. absurd h;
    new_one = λ p v u h k. absurd h;
    leads = λ u l h k. weaker_leads w e m (written e.write r) l (c.leads u l h k);
    heard = c.heard;
    applied = c.applied;
    learnt = c.learnt;
    tells = c.tells;
  };
}

-- to each target goes a packet of one sender and body
pub sent_to_each : (w : World) (m : ℕ) (New : ℕ → Vote → Type 0) (r : Record) (body : Body) (ts : List ℕ) → MaySay w New r body → (k : Packet) → Has (map (packet m body) ts) k → (k.sender ≡ m) × MaySay w New r k.body
sent_to_each w m New r body ts h k q =
    let e = has_map (packet m body) ts k q in
    (sym (ap (λ (x : Packet). x.sender) e.1), subst (λ (x : Packet). MaySay w New r x.body) e.1 h)

-- of what may be heard, all but chosen values was sent
pub heard_sent : (w : World) (k : Packet) (body : Body) → MayHear w k → k.body ≡ body → (TellsChosen w body → ⊥) → Has w.sent k
heard_sent w k body (inl o) e not = o
heard_sent w k body (inr t) e not = absurd (not (subst (TellsChosen w) e t))

-- chosen values that may be heard are chosen
heard_chosen : (w : World) → Invariant w → (k : Packet) (pairs : List Pair) → MayHear w k → k.body ≡ Chosen pairs → (e : Pair) → Has pairs e → IsChosen w e.position e.value
heard_chosen w i k pairs (inl o) q e h = i.chosen k pairs e o q h
heard_chosen w i k pairs (inr t) q e h = (subst (TellsChosen w) q t) e h

-- what was heard of what may be heard is true
pub heard_truth : (w : World) → Invariant w → (packets : List Packet) → ((k : Packet) → Has packets k → MayHear w k) → IsTruth w (news packets)
heard_truth w i packets sent = record {
  accepted = λ m p v h.
      let g = news_given packets (AcceptedBy m p v) h in
      let s = said_accepted g.packet.sender g.packet.body m p v g.gives in
      subst (λ x. Has w.votes (record { member = x; entry = record { position = p; vote = v } })) s.0 (i.accepted g.packet p v (heard_sent w g.packet (Accepted p v) (sent g.packet g.there) s.1 (λ n. n)) s.1);
  chosen = λ pairs e h q.
      let g = news_given packets (ChosenAre pairs) h in
      heard_chosen w i g.packet pairs (sent g.packet g.there) (said_chosen g.packet.sender g.packet.body pairs g.gives) e q;
}

module _ (w : World) (m : ℕ) (r : Record) (u : Running) (owed : List Pair) (s : Stands w m r u owed) where
  -- of a member that runs on as u but for its leader
  pub same_heard : (o : Option Leader) (v : Running) (k : Packet) → Some (record { heard = u.heard; leader = o; applied = u.applied }) ≡ Some v → Has v.heard k → MayHear w k
  same_heard o v k e h = s.heard k (subst (λ (x : Running). Has x.heard k) (sym (same_Some _ _ e)) h)

  -- no more is applied than is learnt
  pub same_applied : (o : Option Leader) (v : Running) → Some (record { heard = u.heard; leader = o; applied = u.applied }) ≡ Some v → v.applied ≤ prefix (length w.members) (news v.heard)
  same_applied o v e = subst (λ (x : Running). x.applied ≤ prefix (length w.members) (news x.heard)) (same_Some _ _ e) s.applied

  -- what is learnt was told or is owed
  pub same_told : (o : Option Leader) (v : Running) → Some (record { heard = u.heard; leader = o; applied = u.applied }) ≡ Some v → (p : ℕ) (value : Value) → learnt_at (length w.members) p (news v.heard) ≡ Some value
      → Has w.told (told_to m (pair_of p value)) ⊎ Has owed (pair_of p value)
  same_told o v e p value l = s.told p value (subst (λ (x : Running). learnt_at (length w.members) p (news x.heard) ≡ Some value) (sym (same_Some _ _ e)) l)

  -- the same leader leads on
  same_leads : (v : Running) (l : Leader) → Some u ≡ Some v → v.leader ≡ Some l → Leads (Asked w) (Asked w) m r l
  same_leads v l e h = s.leads l (ap (λ (x : Running). x.leader) (same_Some u v e) ∙ h)

  -- a step that says and tells, and leaves all else
  pub tells_good : (sends : List Packet) → ((k : Packet) → Has sends k → (k.sender ≡ m) × MaySay w None_new r k.body) → ((t : Pair) → Has owed t → IsChosen w t.position t.value) → Good w m r (record { write = Nothing; running = Some u; sends = sends; tells = owed })
  tells_good sends said told = plain_good w m r _ s.holds (record {
    votes = refl;
    told = s.holds.told;
    casts = λ c h. h;
    grows = below_self r.promise;
    sends = said;
    leads = same_leads;
    heard = λ v k e h. same_heard u.leader v k e h;
    applied = λ v e. same_applied u.leader v e;
    learnt = λ v p value e l. same_told u.leader v e p value l;
    tells = told;
  })

module _ (w : World) (m : ℕ) (r : Record) (u : Running) (s : Stands w m r u []) where
  -- a step that only says is good
  pub says_good : (sends : List Packet) → ((k : Packet) → Has sends k → (k.sender ≡ m) × MaySay w None_new r k.body) → Good w m r (says u sends)
  says_good sends said = tells_good w m r u [] s sends said (λ t h. absurd h)

  -- a quiet step is good
  pub quiet_good : Good w m r (quiet u)
  quiet_good = says_good [] (λ k h. absurd h)

-- a member that stops, with or without what a step wrote
stopped_good : (w : World) (m : ℕ) (r : Record) (e : Effect) → Good w m r e → Good w m r (record { write = e.write; running = None; sends = []; tells = [] })
stopped_good w m r e g = record {
  New = None_new;
  fine = record {
    leaves = g.fine.leaves;
    holds = g.fine.holds;
    casts_new = g.fine.casts_new;
    casts_are = g.fine.casts_are;
    sends = λ k h. absurd h;
    may_ask = λ p v h. nothing_new p v h;
    new_one = λ p v x h k. nothing_new p v h;
    leads = λ u l h k. absurd (none-some u h);
    heard = λ u k h a. absurd (none-some u h);
    applied = λ u h. absurd (none-some u h);
    learnt = λ u p value h l. absurd (none-some u h);
    tells = λ t h. absurd h;
  };
}

-- a member may stop without a write
left_good : (w : World) (m : ℕ) (r : Record) → Holds w m r → Good w m r (record { write = Nothing; running = None; sends = []; tells = [] })
left_good w m r holds = plain_good w m r _ holds (record {
  votes = refl;
  told = holds.told;
  casts = λ c h. h;
  grows = below_self r.promise;
  sends = λ k h. absurd h;
  leads = λ u l h k. absurd (none-some u h);
  heard = λ u k h a. absurd (none-some u h);
  applied = λ u h. absurd (none-some u h);
  learnt = λ u p value h l. absurd (none-some u h);
  tells = λ t h. absurd h;
})

-- a stop inside a step is good
pub stops_in_good : (w : World) (m : ℕ) (r : Record) (kept : Bool) (e : Effect) → Holds w m r → Good w m r e → Good w m r (stops_in kept e)
stops_in_good w m r true e holds g = stopped_good w m r e g
stops_in_good w m r false e holds g = left_good w m r holds

-- a step whose store may fail is good
may_fail_good : (w : World) (m : ℕ) (r : Record) (fails : Option Bool) (e : Effect) → Holds w m r → Good w m r e → Good w m r (may_fail fails e)
may_fail_good w m r None e holds g = g
may_fail_good w m r (Some kept) e holds g = one (writes e.write)
  where
    one : (c : Bool) → Good w m r (cond c (stops_in kept e) e)
    one true = stops_in_good w m r kept e holds g
    one false = g

-- a running member after more is applied
record Applied (n k : ℕ) (o : Option Running) (v : Running) : Type 0 where
  before : Running
  was : o ≡ Some before
  is : applies_to n k before ≡ v

-- who runs after more is applied ran before
applied_is : (n k : ℕ) (o : Option Running) (v : Running) → option_map (applies_to n k) o ≡ Some v → Applied n k o v
applied_is n k None v h = absurd (none-some v h)
applied_is n k (Some u) v h = record { before = u; was = refl; is = same_Some _ _ h }

-- a step after which more is applied is good
pub applies_good : (w : World) (m : ℕ) (r : Record) (k : ℕ) (e : Effect) → Good w m r e → Good w m r (applies (length w.members) k e)
applies_good w m r k e g = record {
  New = g.New;
  fine = record {
    leaves = g.fine.leaves;
    holds = g.fine.holds;
    casts_new = g.fine.casts_new;
    casts_are = g.fine.casts_are;
    sends = g.fine.sends;
    may_ask = g.fine.may_ask;
    new_one = g.fine.new_one;
    leads = λ u l h q. let a = applied_is (length w.members) k e.running u h in g.fine.leads a.before l a.was (ap (λ (x : Running). x.leader) a.is ∙ q);
    heard = λ u p h q. let a = applied_is (length w.members) k e.running u h in g.fine.heard a.before p a.was (subst (λ (x : Running). Has x.heard p) (sym a.is) q);
    applied = λ u h. let a = applied_is (length w.members) k e.running u h in
        subst (λ (x : Running). x.applied ≤ prefix (length w.members) (news x.heard)) a.is (in_order a.before (g.fine.applied a.before a.was));
    learnt = λ u p value h l. let a = applied_is (length w.members) k e.running u h in g.fine.learnt a.before p value a.was (subst (λ (x : Running). learnt_at (length w.members) p (news x.heard) ≡ Some value) (sym a.is) l);
    tells = g.fine.tells;
  };
}
  where
    one : (u : Running) → u.applied ≤ prefix (length w.members) (news u.heard) → (c : Bool) → (nat_le u.applied k && nat_le k (prefix (length w.members) (news u.heard))) ≡ c
        → cond c k u.applied ≤ prefix (length w.members) (news u.heard)
    one u h true q = leb-true _ _ (and_parts _ _ q).1
    one u h false q = h

    in_order : (u : Running) → u.applied ≤ prefix (length w.members) (news u.heard) → (applies_to (length w.members) k u).applied ≤ prefix (length w.members) (news (applies_to (length w.members) k u).heard)
    in_order u h = one u h (nat_le u.applied k && nat_le k (prefix (length w.members) (news u.heard))) refl

-- a step with what is left open
pub settles_good : (w : World) (m : ℕ) (r : Record) (c : Choice) (e : Effect) → Holds w m r → Good w m r e → Good w m r (settles (length w.members) c e)
settles_good w m r c e holds g = applies_good w m r c.applied (may_fail c.fails e) (may_fail_good w m r c.fails e holds g)

-- what a start hears of itself: the values that it kept, or nothing
kept_heard : (m : ℕ) (pairs : List Pair) (k : Packet) → Has (chosen_packet m m pairs) k → k.body ≡ Chosen pairs
kept_heard m [] k h = absurd h
kept_heard m (e ∷ es) k (inl q) = sym (ap (λ (x : Packet). x.body) q)
kept_heard m (e ∷ es) k (inr h) = absurd h

-- what a start has learnt it kept
kept_learnt : (n m p : ℕ) (pairs : List Pair) (value : Value) → learnt_at n p (news (chosen_packet m m pairs)) ≡ Some value → Has pairs (pair_of p value)
kept_learnt n m p [] value h = absurd (none-some value h)
kept_learnt n m p (e ∷ es) value h = pair_has p (e ∷ es) value h

-- a start with what the record keeps
pub resumed_good : (w : World) → Invariant w → (m : ℕ) (r : Record) → Holds w m r → Good w m r (quiet (resumed m r))
resumed_good w i m r holds = plain_good w m r _ holds (record {
  votes = refl;
  told = holds.told;
  casts = λ c h. h;
  grows = below_self r.promise;
  sends = λ k h. absurd h;
  leads = λ u l h k. absurd (none-some l (ap (λ (x : Running). x.leader) (same_Some _ u h) ∙ k));
  heard = λ u p h k. inr (subst (TellsChosen w) (sym (kept_heard m kept p (subst (λ (x : Running). Has x.heard p) (sym (same_Some _ u h)) k))) (λ e o. i.told m e (holds.told e o)));
  applied = λ u h. subst (λ (x : Running). x.applied ≤ prefix (length w.members) (news x.heard)) (same_Some _ u h) (omega arith);
  learnt = λ u p value h l. inl (holds.told (pair_of p value) (kept_learnt (length w.members) m p kept value (subst (λ (x : Running). learnt_at (length w.members) p (news x.heard) ≡ Some value) (sym (same_Some _ u h)) l)));
  tells = λ t h. absurd h;
})
  where
    kept : List Pair
    kept = numbered 1 r.learnt
