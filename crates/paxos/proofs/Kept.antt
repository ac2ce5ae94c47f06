-- What holds after every list of events, and that a step keeps it.
use Rattle.std.proofs.Common.{◌≡◌, ℕ, ◌<◌, ◌≤◌, false, ◌⊎◌, inl, inr, sym, subst, ap, ◌∙◌, Option, Some, None, ⊎_elim, List, [], ◌∷◌, ◌++◌, map, length}
use Rattle.std.proofs.lemmas.Bool.{cases_eq}
use Rattle.std.proofs.lemmas.Option.{same_Some}
use Rattle.paxos.specs.Lists.{at, put, Has}
use Rattle.ballots.specs.Ballot.{below, IsMajority}
use Rattle.ballots.specs.declared.ballot.Ballot.{Ballot}
use Rattle.ballots.specs.declared.value.Value.{Value}
use Rattle.ballots.specs.declared.value.Vote.{Vote}
use Rattle.ballots.specs.declared.value.Entry.{Entry}
use Rattle.ballots.specs.declared.value.Pair.{Pair}
use Rattle.ballots.specs.Messages.{Packet, Body, Promise, Accept, Accepted, Chosen}
use Rattle.paxos.specs.Records.{Record, vote_at, written}
use Rattle.paxos.specs.Knowledge.{learnt as learnt_at, pair_of, numbered, prefix, news}
use Rattle.paxos.specs.Step.{Running, Leader, Effect}
use Rattle.paxos.specs.World.{Member, Cast, Told, cast_by, told_to, casts, World, fresh, after}
use Rattle.paxos.specs.Agreement.{HasVoted, IsChosen}
use Rattle.paxos.specs.Proposable.{HasPromised, IsIssued}
use Rattle.paxos.proofs.Safe.{Safe, Slot}
use Rattle.paxos.proofs.Moves.{MayAsk, Leaves, Moves, safe_after}
use Rattle.paxos.proofs.Lists.{has_left, has_right, has_cases, at_put, at_put_other, length_put}
use Rattle.paxos.proofs.Votes.{Rising}

-- the number of members
abbrev pub size : World → ℕ
size w = length w.members

-- what a record says of one position
abbrev pub slot : ℕ → Record → Slot
slot p r = record { promise = r.promise; vote = vote_at p r.votes }

-- the record of a member, or a fresh one where there is none
abbrev pub kept_in : Option Member → Record
kept_in None = fresh.kept
kept_in (Some x) = x.kept

-- what member m keeps for position p
abbrev pub slot_of : World → ℕ → ℕ → Slot
slot_of w p m = slot p (kept_in (at w.members m))

-- the votes recorded at a position
abbrev pub Voted : World → ℕ → ℕ → Vote → Type 0
Voted w p m v = HasVoted w m p v

-- the votes asked for at a position
abbrev pub Asked : World → ℕ → Vote → Type 0
Asked w p v = IsIssued w p v

-- the reports made at a position
abbrev pub Reported : World → ℕ → ℕ → Ballot → Option Vote → Type 0
Reported w p m b report = HasPromised w.sent m b p report

-- What was asked for under a leader's ballot lies before its next position, and each open proposal was asked for. Not and Is are
-- what was asked for.
pub record Leads (Not Is : ℕ → Vote → Type 0) (m : ℕ) (r : Record) (l : Leader) : Type 0 where
  pub own : l.ballot.member ≡ m
  pub kept : below r.promise l.ballot ≡ false
  pub based : l.base < l.next
  pub asked : (p : ℕ) (v : Vote) → Not p v → v.ballot ≡ l.ballot → p < l.next
  pub proposed : (p : ℕ) (value : Value) → Has l.proposals (record { position = p; value = value }) → Is p (record { ballot = l.ballot; value = value })

-- a body that tells just chosen values
abbrev pub TellsChosen : World → Body → Type 0
TellsChosen w (Chosen pairs) = (e : Pair) → Has pairs e → IsChosen w e.position e.value
TellsChosen w body = ⊥

-- What a member may have heard: what was sent, or chosen values, as it tells itself at a start.
abbrev pub MayHear : World → Packet → Type 0
MayHear w k = Has w.sent k ⊎ TellsChosen w k.body

-- what holds of member m's record: its votes rise, and what it keeps as learnt its member was told
pub record Holds (w : World) (m : ℕ) (r : Record) : Type 0 where
  pub rising : Rising r.votes
  pub told : (e : Pair) → Has (numbered 1 r.learnt) e → Has w.told (told_to m e)

-- what holds after every list of events
pub record Invariant (w : World) : Type 0 where
  pub safe : (p : ℕ) → Safe (length w.members) (slot_of w p) (Voted w p) (Asked w p) (Reported w p)
  pub holds : (m : ℕ) (x : Member) → at w.members m ≡ Some x → Holds w m x.kept
  pub leads : (m : ℕ) (x : Member) (u : Running) (l : Leader) → at w.members m ≡ Some x → x.running ≡ Some u → u.leader ≡ Some l → Leads (Asked w) (Asked w) m x.kept l
  pub heard : (m : ℕ) (x : Member) (u : Running) (k : Packet) → at w.members m ≡ Some x → x.running ≡ Some u → Has u.heard k → MayHear w k
  pub applied : (m : ℕ) (x : Member) (u : Running) → at w.members m ≡ Some x → x.running ≡ Some u → u.applied ≤ prefix (length w.members) (news u.heard)
  pub learnt : (m : ℕ) (x : Member) (u : Running) (p : ℕ) (value : Value) → at w.members m ≡ Some x → x.running ≡ Some u → learnt_at (length w.members) p (news u.heard) ≡ Some value → Has w.told (told_to m (pair_of p value))
  pub accepted : (k : Packet) (p : ℕ) (v : Vote) → Has w.sent k → k.body ≡ Accepted p v → Voted w p k.sender v
  pub chosen : (k : Packet) (pairs : List Pair) (e : Pair) → Has w.sent k → k.body ≡ Chosen pairs → Has pairs e → IsChosen w e.position e.value
  pub told : (m : ℕ) (e : Pair) → Has w.told (told_to m e) → IsChosen w e.position e.value

-- what a member may send, where r is what it keeps from then on, and New are the votes that it newly asks for
abbrev pub MaySay : World → (ℕ → Vote → Type 0) → Record → Body → Type 0
MaySay w New r (Promise x) = (x.ballot ≡ r.promise) × ((p : ℕ) → x.from ≤ p → p ≤ x.covered → vote_at p x.entries ≡ vote_at p r.votes)
MaySay w New r (Accept p v) = Asked w p v ⊎ New p v
MaySay w New r (Accepted p v) = vote_at p r.votes ≡ Some v
MaySay w New r (Chosen pairs) = (e : Pair) → Has pairs e → IsChosen w e.position e.value
MaySay w New r body = Unit {0}

-- the step asks for the vote
abbrev pub Asks : Effect → ℕ → Vote → Type 0
Asks e p v = (k : Packet) × Has e.sends k × (k.body ≡ Accept p v)

-- a step of one member that keeps the invariant
pub record Fine (w : World) (m : ℕ) (old : Record) (New : ℕ → Vote → Type 0) (e : Effect) : Type 0 where
  pub leaves : (p : ℕ) → Leaves (slot p old) (slot p (written e.write old)) (Asked w p)
  pub holds : Holds w m (written e.write old)
  pub casts_new : (p : ℕ) (v : Vote) → vote_at p (written e.write old).votes ≡ Some v → (vote_at p old.votes ≡ Some v) ⊎ Has (casts e.write) (record { position = p; vote = v })
  pub casts_are : (p : ℕ) (v : Vote) → Has (casts e.write) (record { position = p; vote = v }) → vote_at p (written e.write old).votes ≡ Some v
  pub sends : (k : Packet) → Has e.sends k → (k.sender ≡ m) × MaySay w New (written e.write old) k.body
  pub may_ask : (p : ℕ) (v : Vote) → New p v → MayAsk (length w.members) m (written e.write old).promise (Asked w p) (Reported w p) v
  pub new_one : (p : ℕ) (v u : Vote) → New p v → New p u → v.value ≡ u.value
  pub leads : (u : Running) (l : Leader) → e.running ≡ Some u → u.leader ≡ Some l → Leads (λ p v. Asked w p v ⊎ New p v) (λ p v. Asked w p v ⊎ Asks e p v) m (written e.write old) l
  pub heard : (u : Running) (k : Packet) → e.running ≡ Some u → Has u.heard k → MayHear w k
  pub applied : (u : Running) → e.running ≡ Some u → u.applied ≤ prefix (length w.members) (news u.heard)
  pub learnt : (u : Running) (p : ℕ) (value : Value) → e.running ≡ Some u → learnt_at (length w.members) p (news u.heard) ≡ Some value → Has w.told (told_to m (pair_of p value)) ⊎ Has e.tells (pair_of p value)
  pub tells : (t : Pair) → Has e.tells t → IsChosen w t.position t.value

-- a cast vote is of the member that casts it
cast_in : (m k : ℕ) (es : List Entry) (e : Entry) → Has (map (cast_by m) es) (cast_by k e) → (k ≡ m) × Has es e
cast_in m k [] e h = absurd h
cast_in m k (d ∷ es) e (inl q) = (sym (ap (λ (x : Cast). x.member) q), inl (ap (λ (x : Cast). x.entry) q))
cast_in m k (d ∷ es) e (inr h) = let r = cast_in m k es e h in (r.0, inr r.1)

-- each vote of a step is cast
in_cast : (m : ℕ) (es : List Entry) (e : Entry) → Has es e → Has (map (cast_by m) es) (cast_by m e)
in_cast m [] e h = absurd h
in_cast m (d ∷ es) e (inl q) = inl (ap (cast_by m) q)
in_cast m (d ∷ es) e (inr h) = inr (in_cast m es e h)

-- a told value is one of the step
told_in : (m k : ℕ) (es : List Pair) (e : Pair) → Has (map (told_to m) es) (told_to k e) → Has es e
told_in m k [] e h = absurd h
told_in m k (d ∷ es) e (inl q) = inl (ap (λ (x : Told). x.pair) q)
told_in m k (d ∷ es) e (inr h) = inr (told_in m k es e h)

-- each value of a step is told
in_told : (m : ℕ) (es : List Pair) (e : Pair) → Has es e → Has (map (told_to m) es) (told_to m e)
in_told m [] e h = absurd h
in_told m (d ∷ es) e (inl q) = inl (ap (told_to m) q)
in_told m (d ∷ es) e (inr h) = inr (in_told m es e h)

-- a promise among some messages is one among others that have it
pub reports_in : (xs ys : List Packet) (p m : ℕ) (b : Ballot) (o : Option Vote) → (r : HasPromised xs m b p o) → Has ys r.packet → HasPromised ys m b p o
reports_in xs ys p m b o r h = record { packet = r.packet; window = r.window; sent = h; sender = r.sender; body = r.body; of_ballot = r.of_ballot; from = r.from; covered = r.covered; reports = r.reports }

-- a promise stays with more messages
pub reports_left : (xs ys : List Packet) (p m : ℕ) (b : Ballot) (o : Option Vote) → HasPromised xs m b p o → HasPromised (xs ++ ys) m b p o
reports_left xs ys p m b o r = reports_in xs (xs ++ ys) p m b o r (has_left xs ys r.packet r.sent)

module _ (w : World) (m : ℕ) (x : Member) (New : ℕ → Vote → Type 0) (e : Effect) (i : Invariant w) (here : at w.members m ≡ Some x) (f : Fine w m x.kept New e) where
  -- the world after the step
  w' : World
  w' = after w m x.kept e

  -- the record after the step
  abbrev new : Record
  new = written e.write x.kept

  -- the member after the step
  abbrev y' : Member
  y' = record { kept = new; running = e.running }

  -- what the member kept before
  slot_before : (p : ℕ) → slot_of w p m ≡ slot p x.kept
  slot_before p = ap (λ o. slot p (kept_in o)) here

  -- what the member keeps after
  slot_after : (p : ℕ) → slot_of w' p m ≡ slot p new
  unfolding w'
  slot_after p = ap (λ o. slot p (kept_in o)) (at_put w.members m x y' here)

  -- what was asked for stays
  asked_old : (p : ℕ) (v : Vote) → Asked w p v → Asked w' p v
  unfolding w'
  asked_old p v a = record { packet = a.packet; sent = has_left w.sent e.sends a.packet a.sent; body = a.body }

  -- what the step asks for is asked for
  asked_new : (p : ℕ) (v : Vote) → Asks e p v → Asked w' p v
  unfolding w'
  asked_new p v a = record { packet = a.0; sent = has_right w.sent e.sends a.0 a.1; body = a.2 }

  -- what is asked for was before, or is new
  asked_is : (p : ℕ) (v : Vote) → Asked w' p v → Asked w p v ⊎ New p v
  unfolding w'
  asked_is p v a = ⊎_elim
      (λ (o : Has w.sent a.packet). inl (record { packet = a.packet; sent = o; body = a.body }))
      (λ (o : Has e.sends a.packet). subst (MaySay w New new) a.body (f.sends a.packet o).1)
      (has_cases w.sent e.sends a.packet a.sent)

  -- recorded votes stay
  voted_old : (p k : ℕ) (v : Vote) → Voted w p k v → Voted w' p k v
  unfolding w'
  voted_old p k v h = has_left w.votes (map (cast_by m) (casts e.write)) _ h

  -- the votes kept are recorded
  voted_new : (p : ℕ) (v : Vote) → vote_at p new.votes ≡ Some v → Voted w' p m v
  unfolding w'
  voted_new p v h = ⊎_elim
      (λ (o : vote_at p x.kept.votes ≡ Some v). voted_old p m v ((i.safe p).kept_voted m v (ap (λ (r : Slot). r.vote) (slot_before p) ∙ o)))
      (λ (o : Has (casts e.write) (record { position = p; vote = v })). has_right w.votes _ _ (in_cast m (casts e.write) (record { position = p; vote = v }) o))
      (f.casts_new p v h)

  -- what is reported was before, or is what the member keeps
  reported_is : (p k : ℕ) (b : Ballot) (report : Option Vote) → Reported w' p k b report → Reported w p k b report ⊎ ((k ≡ m) × (b ≡ (slot_of w' p m).promise) × (report ≡ (slot_of w' p m).vote))
  unfolding w'
  reported_is p k b report r = ⊎_elim
      (λ (o : Has w.sent r.packet). inl (reports_in (w.sent ++ e.sends) w.sent p k b report r o))
      (λ (o : Has e.sends r.packet).
      let s = f.sends r.packet o in
      let t : (r.window.ballot ≡ new.promise) × ((q : ℕ) → r.window.from ≤ q → q ≤ r.window.covered → vote_at q r.window.entries ≡ vote_at q new.votes) = subst (MaySay w New new) r.body s.1 in
      inr (sym r.sender ∙ s.0, sym r.of_ballot ∙ t.0 ∙ sym (ap (λ (z : Slot). z.promise) (slot_after p)), sym r.reports ∙ t.1 p r.from r.covered ∙ sym (ap (λ (z : Slot). z.vote) (slot_after p))))
      (has_cases w.sent e.sends r.packet r.sent)

  -- the step at one position
  moves : (p : ℕ) → Moves (length w.members) m (New p) (slot_of w p) (slot_of w' p) (Voted w p) (Voted w' p) (Asked w p) (Asked w' p) (Reported w p) (Reported w' p)
  unfolding w'
  moves p = record {
    other = λ k d. ap (λ o. slot p (kept_in o)) (at_put_other w.members m k y' d);
    leaves = subst (λ r. Leaves r (slot_of w' p m) (Asked w p)) (sym (slot_before p)) (subst (λ r. Leaves (slot p x.kept) r (Asked w p)) (sym (slot_after p)) (f.leaves p));
    voted_old = voted_old p;
    voted_new = λ v h. voted_new p v (sym (ap (λ (r : Slot). r.vote) (slot_after p)) ∙ h);
    voted_is = λ k v h. ⊎_elim
        (λ (o : Voted w p k v). inl o)
        (λ (o : Has (map (cast_by m) (casts e.write)) (cast_by k (record { position = p; vote = v }))).
        let c = cast_in m k (casts e.write) (record { position = p; vote = v }) o in inr (c.0, ap (λ (r : Slot). r.vote) (slot_after p) ∙ f.casts_are p v c.1))
        (has_cases w.votes (map (cast_by m) (casts e.write)) (cast_by k (record { position = p; vote = v })) h);
    asked_old = asked_old p;
    asked_is = asked_is p;
    new_one = f.new_one p;
    may_ask = λ v h. subst (λ (r : Slot). MayAsk (length w.members) m r.promise (Asked w p) (Reported w p) v) (sym (slot_after p)) (f.may_ask p v h);
    reported_old = λ k b report r. reports_left w.sent e.sends p k b report r;
    reported_is = reported_is p;
  }

  -- each position is safe after the step
  safe' : (p : ℕ) → Safe (length w'.members) (slot_of w' p) (Voted w' p) (Asked w' p) (Reported w' p)
  unfolding w'
  safe' p = subst (λ n. Safe n (slot_of w' p) (Voted w' p) (Asked w' p) (Reported w' p)) (sym (length_put w.members m y'))
      (safe_after (length w.members) m (New p) (slot_of w p) (slot_of w' p) (Voted w p) (Voted w' p) (Asked w p) (Asked w' p) (Reported w p) (Reported w' p) (i.safe p) (moves p))

  -- what is chosen stays
  chosen_old : (p : ℕ) (value : Value) → IsChosen w p value → IsChosen w' p value
  unfolding w'
  chosen_old p value c = record {
    ballot = c.ballot;
    set = c.set;
    majority = subst (λ n. IsMajority n c.set) (sym (length_put w.members m y')) c.majority;
    voted = λ k h. voted_old p k (record { ballot = c.ballot; value = value }) (c.voted k h);
  }

  -- a property of each member
  each_member : (P : ℕ → Record → Option Running → Type 0) → P m new e.running → ((k : ℕ) (y : Member) → (k ≡ m → ⊥) → at w.members k ≡ Some y → P k y.kept y.running)
      → (k : ℕ) (y : Member) → at w'.members k ≡ Some y → P k y.kept y.running
  unfolding w'
  each_member P own others k y h = ⊎_elim
      (λ (q : k ≡ m).
      let z : y' ≡ y = same_Some _ _ (sym (at_put w.members m x y' here) ∙ subst (λ j. at (put w.members m y') j ≡ Some y) q h) in
      subst (λ j. P j y.kept y.running) (sym q) (subst (λ (v : Member). P m v.kept v.running) z own))
      (λ (d : k ≡ m → ⊥). others k y d (sym (at_put_other w.members m k y' d) ∙ h))
      (cases_eq k m)

  -- the member leads on
  lead_own : (l : Leader) → Leads (λ p v. Asked w p v ⊎ New p v) (λ p v. Asked w p v ⊎ Asks e p v) m new l → Leads (Asked w') (Asked w') m new l
  lead_own l g = record {
    own = g.own;
    kept = g.kept;
    based = g.based;
    asked = λ p v a q. g.asked p v (asked_is p v a) q;
    proposed = λ p value h. ⊎_elim (λ (o : Asked w p (record { ballot = l.ballot; value = value })). asked_old p _ o) (λ (o : Asks e p (record { ballot = l.ballot; value = value })). asked_new p _ o) (g.proposed p value h);
  }

  -- another member leads on
  lead_other : (k : ℕ) (r : Record) → (k ≡ m → ⊥) → (l : Leader) → Leads (Asked w) (Asked w) k r l → Leads (Asked w') (Asked w') k r l
  lead_other k r d l g = record {
    own = g.own;
    kept = g.kept;
    based = g.based;
    asked = λ p v a q. ⊎_elim
        (λ (o : Asked w p v). g.asked p v o q)
        (λ (o : New p v). absurd (d (sym g.own ∙ sym (ap (λ (c : Ballot). c.member) q) ∙ (f.may_ask p v o).own)))
        (asked_is p v a);
    proposed = λ p value h. asked_old p _ (g.proposed p value h);
  }

  -- the number of members stays
  before : (u : Running) (p : ℕ) (value : Value) → learnt_at (length w'.members) p (news u.heard) ≡ Some value → learnt_at (length w.members) p (news u.heard) ≡ Some value
  unfolding w'
  before u p value l = subst (λ n. learnt_at n p (news u.heard) ≡ Some value) (length_put w.members m y') l

  -- what a record holds stays
  holds_old : (k : ℕ) (r : Record) → Holds w k r → Holds w' k r
  unfolding w'
  holds_old k r h = record { rising = h.rising; told = λ t o. has_left w.told (map (told_to m) e.tells) (told_to k t) (h.told t o) }

  -- what may be heard stays
  hear_old : (k : Packet) → MayHear w k → MayHear w' k
  unfolding w'
  hear_old k (inl o) = inl (has_left w.sent e.sends k o)
  hear_old k (inr t) = inr (tells k.body t)
    where
      tells : (b : Body) → TellsChosen w b → TellsChosen (after w m x.kept e) b
      tells (Chosen pairs) h = λ d o. chosen_old d.position d.value (h d o)
      tells b h = absurd h

  -- A fine step keeps the invariant.
  pub invariant_after : Invariant (after w m x.kept e)
  unfolding w'
  invariant_after = record {
    safe = safe';
    holds = each_member (λ k r o. Holds w' k r) (holds_old m new f.holds) (λ k y d a. holds_old k y.kept (i.holds k y a));
    leads = λ k y u l h. each_member (λ j v o. o ≡ Some u → u.leader ≡ Some l → Leads (Asked w') (Asked w') j v l)
        (λ r q. lead_own l (f.leads u l r q))
        (λ j z d a r q. lead_other j z.kept d l (i.leads j z u l a r q)) k y h;
    heard = λ k y u p h r q. hear_old p (each_member (λ j v o. o ≡ Some u → MayHear w p)
        (λ o. f.heard u p o q) (λ j z d a o. i.heard j z u p a o q) k y h r);
    applied = λ k y u h r. subst (λ n. u.applied ≤ prefix n (news u.heard)) (sym (length_put w.members m y'))
        (each_member (λ j v o. o ≡ Some u → u.applied ≤ prefix (length w.members) (news u.heard)) (λ o. f.applied u o) (λ j z d a o. i.applied j z u a o) k y h r);
    learnt = λ k y u p value h r l. each_member (λ j v o. o ≡ Some u → Has w'.told (told_to j (pair_of p value)))
        (λ o. ⊎_elim
        (λ (a : Has w.told (told_to m (pair_of p value))). has_left w.told (map (told_to m) e.tells) _ a)
        (λ (a : Has e.tells (pair_of p value)). has_right w.told (map (told_to m) e.tells) _ (in_told m e.tells _ a))
        (f.learnt u p value o (before u p value l)))
        (λ j z d a o. has_left w.told (map (told_to m) e.tells) _ (i.learnt j z u p value a o (before u p value l))) k y h r;
    accepted = λ k p v h q. ⊎_elim
        (λ (o : Has w.sent k). voted_old p k.sender v (i.accepted k p v o q))
        (λ (o : Has e.sends k). let s = f.sends k o in subst (λ j. Voted w' p j v) (sym s.0) (voted_new p v (subst (MaySay w New new) q s.1)))
        (has_cases w.sent e.sends k h);
    chosen = λ k pairs t h q a. chosen_old t.position t.value (⊎_elim
        (λ (o : Has w.sent k). i.chosen k pairs t o q a)
        (λ (o : Has e.sends k). let s = f.sends k o in (subst (MaySay w New new) q s.1) t a)
        (has_cases w.sent e.sends k h));
    told = λ k t h. chosen_old t.position t.value (⊎_elim
        (λ (o : Has w.told (told_to k t)). i.told k t o)
        (λ (o : Has (map (told_to m) e.tells) (told_to k t)). f.tells t (told_in m k e.tells t o))
        (has_cases w.told (map (told_to m) e.tells) (told_to k t) h));
  }
