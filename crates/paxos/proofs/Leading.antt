-- The leader's steps keep the invariant.
use Rattle.std.proofs.Common.{◌≡◌, ℕ, suc, ◌<◌, ◌≤◌, Bool, true, false, cond, not, arith, refl, ◌⊎◌, inl, inr, sym, subst, ap, ◌∙◌, Option, Some, None, ⊎_elim, List, [], ◌∷◌, length, ◌&&◌, ltb-true, is_none, nat_le, nat_lt}
use Rattle.std.specs.Prelude.{flat_map}
use Rattle.std.proofs.lemmas.Bool.{cases_Bool, both_ways, and_parts, false≢true, leb-true, le-leb}
use Rattle.std.proofs.lemmas.Option.{none-some, same_Some}
use Rattle.paxos.specs.Lists.{at, Has}
use Rattle.ballots.specs.Terms.{Request}
use Rattle.ballots.specs.Ballot.{below}
use Rattle.ballots.specs.declared.ballot.Ballot.{Ballot}
use Rattle.ballots.specs.Values.{positions}
use Rattle.ballots.specs.declared.value.Value.{Value}
use Rattle.ballots.specs.declared.value.Value.TheVariants.{Request as Of}
use Rattle.ballots.specs.declared.value.Vote.{Vote}
use Rattle.ballots.specs.declared.value.Pair.{Pair}
use Rattle.ballots.specs.Messages.{Window, Packet, packet, Body, Prepare, Promise, Accept, Elsewhere, up_to, to_all}
use Rattle.paxos.specs.Records.{Record, NewPromise, written}
use Rattle.paxos.specs.Knowledge.{joins, news, prefix}
use Rattle.paxos.specs.Proposing.{Turn, passes, proposes, has_open, is_covered, has_place, proposal, turn, has_free_place}
use Rattle.paxos.specs.Step.{Leader, Running, quiet, cover_heard, report_heard, is_learnt_heard, turn_of, goes_on, accepts, leading, asks_on, on_promise, closes, learns, on_new_request, next_ballot, may_begin, begins, on_begin, resent, on_resend}
use Rattle.paxos.specs.World.{World}
use Rattle.paxos.specs.Agreement.{IsChosen}
use Rattle.paxos.proofs.Order.{below_self, below_not, most_antisym, from_under}
use Rattle.paxos.proofs.Safe.{Backed}
use Rattle.paxos.proofs.Moves.{MayAsk}
use Rattle.paxos.proofs.Lists.{has_right, has_cases, has_map, map_has, has_flat, flat_has, has_filter}
use Rattle.paxos.proofs.Windows.{cover_promised, reported_promised}
use Rattle.paxos.proofs.Turns.{Why, Turned, unturned, proposes_turned, turns_turned}
use Rattle.paxos.proofs.Kept.{size, kept_in, Asked, Reported, reports_in, Leads, MaySay, Asks}
use Rattle.paxos.proofs.Effects.{Stands, None_new, Good, plain_good, sent_to_each, heard_sent, same_heard, same_applied, same_told, tells_good, says_good, quiet_good}

-- the Accept of a proposal
abbrev accept_of : Ballot → Pair → Body
accept_of b e = Accept e.position (record { ballot = b; value = e.value })

-- each of the Accepts is that of a proposal
accepts_are : (n m : ℕ) (b : Ballot) (es : List Pair) (k : Packet) → Has (accepts n m b es) k → (k.sender ≡ m) × (e : Pair) × Has es e × (k.body ≡ accept_of b e)
accepts_are n m b es k h =
    let f = has_flat (λ (e : Pair). to_all n m (accept_of b e)) es k h in
    let q = has_map (packet m (accept_of b f.0)) (up_to n) k f.2 in
    (sym (ap (λ (x : Packet). x.sender) q.1), f.0, f.1, sym (ap (λ (x : Packet). x.body) q.1))

-- where there is a member, each proposal has an Accept
accepts_have : (n m : ℕ) (b : Ballot) (es : List Pair) → (k : ℕ) × (n ≡ suc k) → (e : Pair) → Has es e → (k : Packet) × Has (accepts n m b es) k × (k.body ≡ accept_of b e)
accepts_have n m b es some e h =
    let f = first n some.0 some.1 in
    (f.0, flat_has (λ (e : Pair). to_all n m (accept_of b e)) es e f.0 h f.1, f.2)
  where
    first : (n k : ℕ) → n ≡ suc k → (p : Packet) × Has (to_all n m (accept_of b e)) p × (p.body ≡ accept_of b e)
    first n k q = rw q (packet m (accept_of b e) (suc k), map_has (packet m (accept_of b e)) (up_to (suc k)) (suc k) (has_right (up_to k) (suc k ∷ []) (suc k) (inl refl)), refl)

module _ (w : World) (m : ℕ) (r : Record) (u : Running) (owed : List Pair) (s : Stands w m r u owed) where
  -- a proposal is backed by the windows of its ballot
  backed : (l : Leader) → Leads (Asked w) (Asked w) m r l → (e : Pair) → l.next ≤ e.position → Why (size w) (cover_heard u.heard l) (report_heard u.heard l) e → Backed (size w) (Reported w e.position) (record { ballot = l.ballot; value = e.value })
  backed l g e low why = record {
    quorum = λ k. nat_le e.position (cover_heard u.heard l k);
    majority = ltb-true _ _ why.covered;
    top = report_heard u.heard l e.position;
    each = λ k h.
        let p = cover_promised l.ballot l.base k e.position u.heard above (leb-true _ _ h) in
        (p.0, reports_in u.heard w.sent e.position k l.ballot p.0 p.1 (heard_sent w p.1.packet (Promise p.1.window) (s.heard p.1.packet p.1.sent) p.1.body (λ n. n)), p.2);
    held = λ t h.
        let p = reported_promised l.ballot l.base e.position u.heard t h in
        let said = reports_in u.heard w.sent e.position p.0 l.ballot (Some t) p.1 (heard_sent w p.1.packet (Promise p.1.window) (s.heard p.1.packet p.1.sent) p.1.body (λ n. n)) in
        record { member = p.0; in_quorum = le-leb e.position (cover_heard u.heard l p.0) p.2; reported = said; same_value = why.value t h; lower = lower t p.0 said };
  }
    where
      above : l.base < e.position
      above = omega (arith, g.based)

      lower : (t : Vote) (k : ℕ) → Reported w e.position k l.ballot (Some t) → below t.ballot l.ballot ≡ true
      lower t k said = ⊎_elim
          (λ (q : below t.ballot l.ballot ≡ true). q)
          (λ (q : below t.ballot l.ballot ≡ false).
          let i = s.invariant.safe e.position in
          let early = g.asked e.position t (i.voted_asked k t (i.reported_voted k l.ballot t said)) (most_antisym t.ballot l.ballot q (i.reported_most k l.ballot t said)) in
          absurd (omega arith))
          (cases_Bool (below t.ballot l.ballot))

  -- A leader that proposes keeps the invariant.
  pub leading_good : (l : Leader) → Leads (Asked w) (Asked w) m r l → (before : List Packet) (t : Turn)
      → ((k : Packet) → Has before k → (k.sender ≡ m) × ((New : ℕ → Vote → Type 0) → MaySay w New r k.body)) → ((e : Pair) → Has owed e → IsChosen w e.position e.value)
      → Turned (size w) (cover_heard u.heard l) (report_heard u.heard l) l.next l.proposals t → Good w m r (leading (size w) m u l t before owed)
  leading_good l g before t said told c = record {
    New = New;
    fine = record {
      leaves = λ p. record { grows = below_self r.promise; vote = inl refl };
      holds = s.holds;
      casts_new = λ p v h. inl h;
      casts_are = λ p v h. absurd h;
      sends = λ k h. ⊎_elim
          (λ (o : Has before k). let b = said k o in (b.0, b.1 New))
          (λ (o : Has (accepts (size w) m l.ballot t.made) k). let b = accepts_are (size w) m l.ballot t.made k o in (b.0, subst (MaySay w New r) (sym b.3) (inr (refl, b.2))))
          (has_cases before (accepts (size w) m l.ballot t.made) k h);
      may_ask = λ p v h. subst (MayAsk (size w) m r.promise (Asked w p) (Reported w p)) (ap (λ (x : Ballot). record { ballot = x; value = v.value }) (sym h.0)) (may p v.value h.1);
      new_one = λ p v x h k. c.one (record { position = p; value = v.value }) (record { position = p; value = x.value }) h.1 k.1 refl;
      leads = λ v k e h. subst (Leads (λ p x. Asked w p x ⊎ New p x) (λ p x. Asked w p x ⊎ Asks (leading (size w) m u l t before owed) p x) m r)
          (same_Some _ _ (ap (λ (x : Running). x.leader) (same_Some _ _ e) ∙ h)) leads;
      heard = λ v k e h. same_heard w m r u owed s _ v k e h;
      applied = λ v e. same_applied w m r u owed s _ v e;
      learnt = λ v p value e l. same_told w m r u owed s _ v e p value l;
      tells = told;
    };
  }
    where
      New : ℕ → Vote → Type 0
      New p v = (v.ballot ≡ l.ballot) × Has t.made (record { position = p; value = v.value })

      may : (p : ℕ) (value : Value) → Has t.made (record { position = p; value = value }) → MayAsk (size w) m r.promise (Asked w p) (Reported w p) (record { ballot = l.ballot; value = value })
      may p value h = record {
        own = g.own;
        kept = g.kept;
        backed = backed l g (record { position = p; value = value }) (c.low _ h) (c.why _ h);
        unasked = λ x a q. let early = g.asked p x a q in let late = c.low _ h in absurd (omega arith);
      }

      leads : Leads (λ p x. Asked w p x ⊎ New p x) (λ p x. Asked w p x ⊎ Asks (leading (size w) m u l t before owed) p x) m r (record { ballot = l.ballot; base = l.base; next = t.next; proposals = t.proposals })
      leads = record {
        own = g.own;
        kept = g.kept;
        based = omega (arith, g.based, c.on);
        asked = λ p v a q. ⊎_elim (λ (o : Asked w p v). let early = g.asked p v o q in omega (arith, c.on)) (λ (o : New p v). c.under _ o.1) a;
        proposed = λ p value h. ⊎_elim
            (λ (o : Has l.proposals (record { position = p; value = value })). inl (g.proposed p value o))
            (λ (o : Has t.made (record { position = p; value = value })).
            let k = accepts_have (size w) m l.ballot t.made s.some (record { position = p; value = value }) o in inr (k.0, has_right before (accepts (size w) m l.ballot t.made) k.0 k.1, k.2))
            (c.known (record { position = p; value = value }) h);
      }

  -- proposing goes on
  goes_on_good : (l : Leader) → Leads (Asked w) (Asked w) m r l → (before : List Packet)
      → ((k : Packet) → Has before k → (k.sender ≡ m) × ((New : ℕ → Vote → Type 0) → MaySay w New r k.body)) → ((e : Pair) → Has owed e → IsChosen w e.position e.value)
      → Good w m r (leading (size w) m u l (goes_on (size w) u.heard l) before owed)
  goes_on_good l g before said told = leading_good l g before (goes_on (size w) u.heard l) said told
      (turns_turned (size w) (cover_heard u.heard l) (report_heard u.heard l) (is_learnt_heard (size w) u.heard) l.next l.proposals positions (turn_of l) (unturned (size w) (cover_heard u.heard l) (report_heard u.heard l) l.next l.proposals))

  -- a leader may ask on
  asks_on_says : (l : Leader) (j : ℕ) (k : Packet) → Has (asks_on m u.heard l j) k → (k.sender ≡ m) × ((New : ℕ → Vote → Type 0) → MaySay w New r k.body)
  asks_on_says l j k h = one (nat_lt (cover_heard u.heard l j) positions) h
    where
      body : Body
      body = Prepare l.ballot (suc (cover_heard u.heard l j))

      one : (t : Bool) → Has (cond t (packet m body j ∷ []) []) k → (k.sender ≡ m) × ((New : ℕ → Vote → Type 0) → MaySay w New r k.body)
      one true (inl e) = (sym (ap (λ (x : Packet). x.sender) e), λ New. subst (λ (x : Packet). MaySay w New r x.body) e tt)
      one true (inr e) = absurd e
      one false e = absurd e

  -- a leader leads on where proposals are closed
  closes_leads : (l : Leader) → Leads (Asked w) (Asked w) m r l → Leads (Asked w) (Asked w) m r (closes (size w) u.heard l)
  closes_leads l g = record { own = g.own; kept = g.kept; based = g.based; asked = g.asked; proposed = λ p value h. g.proposed p value (has_filter (λ (e : Pair). not (is_learnt_heard (size w) u.heard e.position)) l.proposals _ h) }

-- what is newly learnt is told
pub learns_good : (w : World) (m : ℕ) (r : Record) (u : Running) (es : List Pair) (s : Stands w m r u es) → ((e : Pair) → Has es e → IsChosen w e.position e.value) → (o : Option Leader) → u.leader ≡ o → Good w m r (learns (length w.members) m u es o)
learns_good w m r u [] s chosen o e = quiet_good w m r u s
learns_good w m r u (d ∷ ds) s chosen None e = tells_good w m r u (d ∷ ds) s [] (λ k h. absurd h) chosen
learns_good w m r u (d ∷ ds) s chosen (Some l) e = goes_on_good w m r u (d ∷ ds) s (closes (length w.members) u.heard l) (closes_leads w m r u (d ∷ ds) s l (s.leads l e)) [] (λ k h. absurd h) chosen

module _ (w : World) (m : ℕ) (r : Record) (u : Running) (s : Stands w m r u []) where
  -- a Promise
  pub promise_good : (older : List Packet) (sender : ℕ) (x : Window) (o : Option Leader) → u.leader ≡ o → Good w m r (on_promise (size w) m older u sender x o)
  promise_good older sender x None e = quiet_good w m r u s
  promise_good older sender x (Some l) e = one (joins l.ballot (cover_heard older l sender) x)
    where
      one : (t : Bool) → Good w m r (cond t (leading (size w) m u l (goes_on (size w) u.heard l) (asks_on m u.heard l sender) []) (quiet u))
      one true = goes_on_good w m r u [] s l (s.leads l e) (asks_on m u.heard l sender) (asks_on_says w m r u [] s l sender) (λ t h. absurd h)
      one false = quiet_good w m r u s

  -- where there is a free place, nothing is reported
  unreported : (cover : ℕ → ℕ) (report : ℕ → Option Vote) (learnt : ℕ → Bool) (t : Turn) → has_free_place (size w) cover report learnt t ≡ true → (is_covered (size w) cover t.next ≡ true) × ((top : Vote) → report t.next ≡ Some top → ⊥)
  unreported cover report learnt t h =
      let q = and_parts (has_place (size w) cover t) (is_none (turn (size w) cover report learnt t)) h in
      ((and_parts _ _ (and_parts _ _ q.0).1).1, λ top e. three (report t.next) top e (two (has_place (size w) cover t) q.0 (learnt t.next) q.1))
    where
      two : (a : Bool) → a ≡ true → (c : Bool) → is_none (cond a (cond c (Some (passes t)) (proposal report learnt t (report t.next))) None) ≡ true → is_none (proposal report learnt t (report t.next)) ≡ true
      two false d c e = absurd (false≢true d)
      two true d true e = absurd (false≢true e)
      two true d false e = e

      three : (o : Option Vote) (top : Vote) → o ≡ Some top → is_none (proposal report learnt t o) ≡ true → ⊥
      three None top e q = none-some top e
      three (Some x) top e q = false≢true q

  -- a new request
  pub new_request_good : (q : Request) (o : Option Leader) → u.leader ≡ o → Good w m r (on_new_request (size w) m r u q o)
  new_request_good q None e = says_good w m r u s _ (λ k h. sent_to_each w m None_new r (Elsewhere q.client q.number r.promise.member) (0 ∷ []) tt k h)
  new_request_good q (Some l) e = one (not (has_open q l.proposals) && has_free_place (size w) (cover_heard u.heard l) (report_heard u.heard l) (is_learnt_heard (size w) u.heard) (turn_of l)) refl
    where
      one : (t : Bool) → (not (has_open q l.proposals) && has_free_place (size w) (cover_heard u.heard l) (report_heard u.heard l) (is_learnt_heard (size w) u.heard) (turn_of l)) ≡ t
          → Good w m r (cond t (leading (size w) m u l (proposes (Of q) (turn_of l)) [] []) (quiet u))
      one true h =
          let free = unreported (cover_heard u.heard l) (report_heard u.heard l) (is_learnt_heard (size w) u.heard) (turn_of l) (and_parts _ _ h).1 in
          leading_good w m r u [] s l (s.leads l e) [] (proposes (Of q) (turn_of l)) (λ k a. absurd a) (λ t a. absurd a)
          (proposes_turned (size w) (cover_heard u.heard l) (report_heard u.heard l) (is_learnt_heard (size w) u.heard) l.next l.proposals (turn_of l) (Of q)
          (record { covered = free.0; value = λ top a. absurd (free.1 top a) })
          (unturned (size w) (cover_heard u.heard l) (report_heard u.heard l) l.next l.proposals))
      one false h = quiet_good w m r u s

  -- a Begin that is not refused
  pub begins_good : Good w m r (begins (size w) m r u)
  begins_good = plain_good w m r (begins (size w) m r u) s.holds (record {
    votes = refl;
    told = s.holds.told;
    casts = λ c h. h;
    grows = below_not r.promise (next_ballot m r) above;
    sends = sent_to_each w m None_new (written (NewPromise (next_ballot m r)) r) (Prepare (next_ballot m r) (suc base)) (up_to (size w)) tt;
    leads = leads;
    heard = λ v k e h. same_heard w m r u [] s _ v k e h;
    applied = λ v e. same_applied w m r u [] s _ v e;
    learnt = λ v p value e l. same_told w m r u [] s _ v e p value l;
    tells = λ t h. absurd h;
  })
    where
      base : ℕ
      base = prefix (size w) (news u.heard)

      lead : Leader
      lead = record { ballot = next_ballot m r; base = base; next = suc base; proposals = [] }

      above : below r.promise (next_ballot m r) ≡ true
      above = from_under r.promise (next_ballot m r) (omega arith)

      none : (p : ℕ) (v : Vote) → Asked w p v → v.ballot ≡ next_ballot m r → ⊥
      none p v a e =
          let h : below (kept_in (at w.members v.ballot.member)).promise v.ballot ≡ false = (s.invariant.safe p).asked_promised v a in
          let k : below (kept_in (at w.members m)).promise (next_ballot m r) ≡ false = subst (λ (b : Ballot). below (kept_in (at w.members b.member)).promise b ≡ false) e h in
          both_ways (below r.promise (next_ballot m r)) (subst (λ (x : Record). below x.promise (next_ballot m r) ≡ false) s.kept k) above

      leads : (v : Running) (l : Leader) → (begins (size w) m r u).running ≡ Some v → v.leader ≡ Some l → Leads (Asked w) (Asked w) m (written (NewPromise (next_ballot m r)) r) l
      leads v l e h = subst (Leads (Asked w) (Asked w) m (written (NewPromise (next_ballot m r)) r)) (same_Some lead l (ap (λ (x : Running). x.leader) (same_Some _ _ e) ∙ h))
          (record { own = refl; kept = below_self (next_ballot m r); based = omega arith; asked = λ p x a q. absurd (none p x a q); proposed = λ p value a. absurd a })

  -- a Begin
  pub begin_good : Good w m r (on_begin (size w) m r u)
  begin_good = one (may_begin (size w) r u)
    where
      one : (t : Bool) → Good w m r (cond t (begins (size w) m r u) (quiet u))
      one true = begins_good
      one false = quiet_good w m r u s

  -- a leader may send again what it proposed
  resent_says : (o : Option Leader) → u.leader ≡ o → (k : Packet) → Has (resent (size w) m u.heard o) k → (k.sender ≡ m) × MaySay w None_new r k.body
  resent_says None e k h = absurd h
  resent_says (Some l) e k h = ⊎_elim
      (λ (o : Has (accepts (size w) m l.ballot l.proposals) k).
      let a = accepts_are (size w) m l.ballot l.proposals k o in (a.0, subst (MaySay w None_new r) (sym a.3) (inl ((s.leads l e).proposed a.1.position a.1.value a.2))))
      (λ (o : Has (flat_map (asks_on m u.heard l) (up_to (size w))) k).
      let f = has_flat (asks_on m u.heard l) (up_to (size w)) k o in
      let a = asks_on_says w m r u [] s l f.0 k f.2 in (a.0, a.1 None_new))
      (has_cases (accepts (size w) m l.ballot l.proposals) (flat_map (asks_on m u.heard l) (up_to (size w))) k h)

  -- the tick Resend
  pub resend_good : Good w m r (on_resend (size w) m u)
  resend_good = says_good w m r u s _ (resent_says u.leader refl)
