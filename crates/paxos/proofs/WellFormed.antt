-- Every event keeps all members and messages well formed, so they are after every list of events.
use Rattle.std.proofs.Common.{◌≡◌, ℕ, zero, suc, ◌≤◌, Bool, true, false, cond, arith, refl, inl, sym, subst, ◌∙◌, Option, Some, None, ⊎_elim, List, [], ◌∷◌, ◌++◌, length}
use Rattle.std.proofs.lemmas.Bool.{cases_eq}
use Rattle.std.proofs.lemmas.List.{length-replicate}
use Rattle.std.proofs.lemmas.Option.{none-some, same_Some, slice_get_within}
use Rattle.paxos.specs.Lists.{at, put, Has}
use Rattle.ballots.specs.Ballot.{most_members, below}
use Rattle.ballots.specs.declared.ballot.Ballot.{Ballot}
use Rattle.ballots.specs.Messages.{Packet, packet, Body, Prepare, Promise, Submit, Ask}
use Rattle.paxos.specs.Application.{Application}
use Rattle.paxos.specs.Records.{Record, written}
use Rattle.paxos.specs.Step.{Running, Effect, quiet, on_message, may_begin, begins, on_begin, on_keep, resumed}
use Rattle.paxos.specs.World.{Member, World, started, fresh, start, Event, Deliver, Begin, Resend, CatchUp, Keep, Submits, Asks, StopInDeliver, StopInBegin, StopInKeep, Stop, Start, Choice, after, keeps_in, stops_in, applies, settles, runs, takes, acts, delivers, begins_in, asks, restarts, starts, happens, Happening, run}
use Rattle.paxos.specs.Sound.{IsAskedFor, Sound}
use Rattle.paxos.specs.WellFormed.{IsMessage, IsRecord, IsCalledFor, IsState, IsWellFormed}
use Rattle.paxos.proofs.Order.{below_self, most_trans}
use Rattle.paxos.proofs.Lists.{has_cases, at_has, at_put, at_put_other, length_put, at_replicate}
use Rattle.paxos.proofs.Steps.{Calls, Stepped, called_still, quiet_step, begin_step, begins_step, resend_step, catch_up_tick_step, keep_step, message_step}
use Rattle.paxos.proofs.Settled.{stops_in_step, settles_step, resumed_step}

-- an element that is there has a number from 1 to the length
pub at_number : {A : Type 0} (xs : List A) (m : ℕ) (x : A) → at xs m ≡ Some x → (1 ≤ m) × (m ≤ length xs)
at_number xs zero x h = absurd (none-some x h)
at_number xs (suc i) x h = (omega arith, slice_get_within xs i x h)

-- a step of a member that is there
module _ (n : ℕ) (w : World) (m : ℕ) (x : Member) (e : Effect) (i : Sound n w) (here : at w.members m ≡ Some x) (s : Stepped n m (IsAskedFor w) x.kept e) where
  -- the member after the step
  abbrev new : Member
  new = record { kept = written e.write x.kept; running = e.running }

  -- the member itself, or another as it was
  each_member : (P : ℕ → Member → Type 0) → P m new → ((k : ℕ) (y : Member) → at w.members k ≡ Some y → P k y) → (k : ℕ) (y : Member) → at (put w.members m new) k ≡ Some y → P k y
  each_member P own others k y h = ⊎_elim
      (λ (q : k ≡ m).
      let z : new ≡ y = same_Some new y (sym (at_put w.members m x new here) ∙ subst (λ j. at (put w.members m new) j ≡ Some y) q h) in
      subst (λ j. P j y) (sym q) (subst (P m) z own))
      (λ (d : k ≡ m → ⊥). others k y (sym (at_put_other w.members m k new d) ∙ h))
      (cases_eq k m)

  -- a member that is there was there, and has promised no less
  abbrev Was : ℕ → Member → Type 0
  Was k y = (z : Member) × (at w.members k ≡ Some z) × (below y.kept.promise z.kept.promise ≡ false)

  -- so for each
  was : (k : ℕ) (y : Member) → at (put w.members m new) k ≡ Some y → Was k y
  was = each_member Was (x, here, s.grows) (λ k y h. (y, h, below_self y.kept.promise))

  -- what was asked for is promised still
  asked_still : (b : Ballot) (y : Member) → IsAskedFor w b → at (put w.members m new) b.member ≡ Some y → below y.kept.promise b ≡ false
  asked_still b y a h = let z = was b.member y h in most_trans b z.0.kept.promise y.kept.promise (i.asked b z.0 a z.1) z.2

  -- what is sent is called for
  called_new : (target : ℕ) (body : Body) → Calls (IsAskedFor w) m new.kept target body → (y : Member) → at (put w.members m new) target ≡ Some y → IsCalledFor y.kept body
  called_new target (Promise v) c y h = asked_still v.ballot y c.0 (subst (λ j. at (put w.members m new) j ≡ Some y) c.1 h)
  called_new target body c y h = tt

  -- what is asked for is promised
  asked_new : (k : Packet) (b : Ballot) (from : ℕ) (y : Member) → Has e.sends k → k.body ≡ Prepare b from → at (put w.members m new) b.member ≡ Some y → below y.kept.promise b ≡ false
  asked_new k b from y o q h =
      let c : (m ≡ b.member) × (below new.kept.promise b ≡ false) = subst (Calls (IsAskedFor w) m new.kept k.target) q (s.sends k o).calls in
      let z : new ≡ y = same_Some new y (sym (at_put w.members m x new here) ∙ subst (λ j. at (put w.members m new) j ≡ Some y) (sym c.0) h) in
      subst (λ (v : Member). below v.kept.promise b ≡ false) z c.1

  -- The step keeps all well formed.
  pub sound_after : Sound n (after w m x.kept e)
  sound_after = record {
    size = length_put w.members m new ∙ i.size;
    few = i.few;
    sent = λ k h. ⊎_elim (λ (o : Has w.sent k). i.sent k o) (λ (o : Has e.sends k). (s.sends k o).message) (has_cases w.sent e.sends k h);
    kept = each_member (λ k y. IsRecord n y.kept) s.kept i.kept;
    runs = λ k y u h q. each_member (λ j z. z.running ≡ Some u → IsState n j z.kept u) (λ r. s.runs u r) (λ j z a r. i.runs j z u a r) k y h q;
    called_for = λ k y h q. ⊎_elim
        (λ (o : Has w.sent k). let z = was k.target y q in called_still z.0.kept y.kept k.body z.2 (i.called_for k z.0 o z.1))
        (λ (o : Has e.sends k). called_new k.target k.body (s.sends k o).calls y q)
        (has_cases w.sent e.sends k h);
    asked = λ b y a q. ⊎_elim
        (λ (o : Has w.sent a.packet). asked_still b y (record { packet = a.packet; from = a.from; sent = o; body = a.body }) q)
        (λ (o : Has e.sends a.packet). asked_new a.packet b a.from y o a.body q)
        (has_cases w.sent e.sends a.packet a.sent);
  }

-- a step wherever a running member takes it
acts_sound : (n : ℕ) (w : World) → Sound n w → (m : ℕ) (step : Record → Running → Effect)
    → ((x : Member) (u : Running) → at w.members m ≡ Some x → 1 ≤ m → m ≤ n → IsState n m x.kept u → Stepped n m (IsAskedFor w) x.kept (step x.kept u)) → Sound n (acts w m step)
acts_sound n w i m step good = taken (at w.members m) refl
  where
    ran : (x : Member) → at w.members m ≡ Some x → (o : Option Running) → x.running ≡ o → Sound n (runs w m x.kept step o)
    ran x h None r = i
    ran x h (Some u) r =
        let b = at_number w.members m x h in
        sound_after n w m x (step x.kept u) i h (good x u h b.0 (subst (λ j. m ≤ j) i.size b.1) (i.runs m x u h r))

    taken : (o : Option Member) → at w.members m ≡ o → Sound n (takes w m step o)
    taken None h = i
    taken (Some x) h = ran x h x.running refl

-- a start of a member that is there
restarts_sound : (n : ℕ) (w : World) → Sound n w → (fails : Option Bool) (k m : ℕ) (x : Member) → at w.members m ≡ Some x → (o : Option Running) → Sound n (restarts w fails k m x.kept o)
restarts_sound n w i fails k m x h (Some u) = i
restarts_sound n w i (Some kept) k m x h None = i
restarts_sound n w i None k m x h None = subst (λ j. Sound n (after w m x.kept (applies j k (quiet (resumed m x.kept))))) (sym i.size)
    (sound_after n w m x (applies n k (quiet (resumed m x.kept))) i h (resumed_step n m (IsAskedFor w) x.kept k (i.kept m x h)))

-- a start
starts_sound : (n : ℕ) (w : World) → Sound n w → (c : Choice) (m : ℕ) (o : Option Member) → at w.members m ≡ o → Sound n (starts w c m o)
starts_sound n w i c m None h = i
starts_sound n w i c m (Some x) h = restarts_sound n w i c.fails c.applied m x h x.running

-- what a client says
abbrev IsClients : Body → Type 0
IsClients (Submit q) = Unit {0}
IsClients (Ask q) = Unit {0}
IsClients body = ⊥

-- such a message more among those sent
module _ (n : ℕ) (w : World) (m : ℕ) (x : Member) (i : Sound n w) (here : at w.members m ≡ Some x) where
  -- it is well formed
  clients_message : (body : Body) → IsClients body → IsMessage n (packet 0 body m)
  clients_message (Submit q) h = record { sender = refl; target = subst (λ j. m ≤ j) i.size (at_number w.members m x here).1; body = tt }
  clients_message (Ask q) h = record { sender = refl; target = subst (λ j. m ≤ j) i.size (at_number w.members m x here).1; body = tt }
  clients_message body h = absurd h

  -- it tells of no promise
  clients_called : (body : Body) (r : Record) → IsClients body → IsCalledFor r body
  clients_called (Submit q) r h = tt
  clients_called (Ask q) r h = tt
  clients_called body r h = absurd h

  -- it asks for none
  clients_ask : (body : Body) (b : Ballot) (from : ℕ) → IsClients body → body ≡ Prepare b from → ⊥
  clients_ask body b from h e = subst IsClients e h

  -- it keeps all well formed
  client_sound : (body : Body) → IsClients body → Sound n (record { members = w.members; sent = w.sent ++ packet 0 body m ∷ []; votes = w.votes; told = w.told })
  client_sound body is = record {
    size = i.size;
    few = i.few;
    sent = λ k h. or_new k h (λ o. IsMessage n o) (i.sent k) (clients_message body is);
    kept = i.kept;
    runs = i.runs;
    called_for = λ k y h q. or_new k h (λ (o : Packet). (y : Member) → at w.members o.target ≡ Some y → IsCalledFor y.kept o.body) (λ o z a. i.called_for k z o a) (λ z a. clients_called body z.kept is) y q;
    asked = λ b y a q. or_new a.packet a.sent (λ (o : Packet). o.body ≡ Prepare b a.from → below y.kept.promise b ≡ false)
        (λ o d. i.asked b y (record { packet = a.packet; from = a.from; sent = o; body = d }) q) (λ d. absurd (clients_ask body b a.from is d)) a.body;
  }
    where
      or_new : (k : Packet) → Has (w.sent ++ packet 0 body m ∷ []) k → (P : Packet → Type 0) → (Has w.sent k → P k) → P (packet 0 body m) → P k
      or_new k h P old new = ⊎_elim
          (λ (o : Has w.sent k). old o)
          (λ (o : Has (packet 0 body m ∷ []) k). ⊎_elim (λ (q : packet 0 body m ≡ k). subst P q new) (λ (q : ⊥). absurd q) o)
          (has_cases w.sent (packet 0 body m ∷ []) k h)

-- a client's message
asks_sound : (n : ℕ) (w : World) → Sound n w → (m : ℕ) (body : Body) → IsClients body → (o : Option Member) → at w.members m ≡ o → Sound n (asks w m body o)
asks_sound n w i m body is None h = i
asks_sound n w i m body is (Some x) h = client_sound n w m x i h body is

-- all that an event may do in a world
module _ (w : World) (i : Sound (length w.members) w) where
  -- the number of members
  abbrev n : ℕ
  n = length w.members

  -- a delivery, with what is done to the step
  delivers_sound : (app : Application) (how : Effect → Effect) → ((m : ℕ) (r : Record) (e : Effect) → IsRecord n r → Stepped n m (IsAskedFor w) r e → Stepped n m (IsAskedFor w) r (how e))
      → (o : Option Packet) → ((k : Packet) → o ≡ Some k → Has w.sent k) → Sound n (delivers app w how o)
  delivers_sound app how keeps None h = i
  delivers_sound app how keeps (Some k) h = acts_sound n w i k.target (λ r u. how (on_message app n k.target k r u)) (λ x u here low high s.
      keeps k.target x.kept (on_message app n k.target k x.kept u) s.kept
      (message_step n k.target low high (IsAskedFor w) x.kept u app k (i.sent k (h k refl))
      (λ b from e. record { packet = k; from = from; sent = h k refl; body = e }) s))

  -- a Begin, with what it leaves open
  begins_in_step : (c : Choice) (m : ℕ) → 1 ≤ m → m ≤ n → (r : Record) (u : Running) → IsState n m r u → Stepped n m (IsAskedFor w) r (begins_in w c m r u)
  begins_in_step c m low high r u s = one (may_begin n r u) refl
    where
      one : (t : Bool) → may_begin n r u ≡ t → Stepped n m (IsAskedFor w) r (cond t (settles n c (begins n m r u)) (quiet u))
      one true h = settles_step n m (IsAskedFor w) r c (begins n m r u) s.kept (begins_step n m low high (IsAskedFor w) r u s i.few h)
      one false h = quiet_step n m low high (IsAskedFor w) r u s

  -- each event
  event_sound : (app : Application) (c : Choice) (e : Event) → Sound n (happens app w c e)
  event_sound app c (Deliver k) = delivers_sound app (settles n c) (λ m r e is s. settles_step n m (IsAskedFor w) r c e is s) (at w.sent k) (λ p h. at_has w.sent k p h)
  event_sound app c (Begin m) = acts_sound n w i m (begins_in w c m) (λ x u here low high s. begins_in_step c m low high x.kept u s)
  event_sound app c (Resend m) = acts_sound n w i m _ (λ x u here low high s. settles_step n m (IsAskedFor w) x.kept c _ s.kept (resend_step n m low high (IsAskedFor w) x.kept u s))
  event_sound app c (CatchUp m) = acts_sound n w i m _ (λ x u here low high s. settles_step n m (IsAskedFor w) x.kept c _ s.kept (catch_up_tick_step n m low high (IsAskedFor w) x.kept u s))
  event_sound app c (Keep m) = acts_sound n w i m _ (λ x u here low high s. settles_step n m (IsAskedFor w) x.kept c (on_keep n x.kept u) s.kept (keep_step n m low high (IsAskedFor w) x.kept u s))
  event_sound app c (Submits m q) = asks_sound n w i m (Submit q) tt (at w.members m) refl
  event_sound app c (Asks m q) = asks_sound n w i m (Ask q) tt (at w.members m) refl
  event_sound app c (StopInDeliver k kept) = delivers_sound app (stops_in (keeps_in c.fails kept)) (λ m r e is s. stops_in_step n m (IsAskedFor w) r (keeps_in c.fails kept) e is s) (at w.sent k) (λ p h. at_has w.sent k p h)
  event_sound app c (StopInBegin m kept) = acts_sound n w i m _ (λ x u here low high s.
      stops_in_step n m (IsAskedFor w) x.kept (keeps_in c.fails kept) (on_begin n m x.kept u) s.kept (begin_step n m low high (IsAskedFor w) x.kept u s i.few))
  event_sound app c (StopInKeep m kept) = acts_sound n w i m _ (λ x u here low high s.
      stops_in_step n m (IsAskedFor w) x.kept (keeps_in c.fails kept) (on_keep n x.kept u) s.kept (keep_step n m low high (IsAskedFor w) x.kept u s))
  event_sound app c (Stop m) = acts_sound n w i m _ (λ x u here low high s. stops_in_step n m (IsAskedFor w) x.kept false (quiet u) s.kept (quiet_step n m low high (IsAskedFor w) x.kept u s))
  event_sound app c (Start m) = starts_sound n w i c m (at w.members m) refl

-- each event keeps n members well formed
pub happens_sound : (n : ℕ) (app : Application) (w : World) (c : Choice) (e : Event) → Sound n w → Sound n (happens app w c e)
happens_sound n app w c e i = subst (λ j. Sound j (happens app w c e)) i.size (event_sound w (subst (λ j. Sound j w) (sym i.size) i) app c e)

-- so does each list of events
pub run_sound : (n : ℕ) (app : Application) (w : World) (hs : List Happening) → Sound n w → Sound n (run app w hs)
run_sound n app w [] i = i
run_sound n app w (h ∷ hs) i = run_sound n app (happens app w h.choice h.event) hs (happens_sound n app w h.choice h.event i)

-- members that never did anything are well formed
pub start_sound : (n : ℕ) → n ≤ most_members → Sound n (start n)
start_sound n few = record {
  size = length-replicate n fresh;
  few = few;
  sent = λ k h. absurd h;
  kept = λ m x h. subst (λ (y : Member). IsRecord n y.kept) (at_replicate n m fresh x h) is_fresh;
  runs = λ m x u h r. subst (λ (y : Member). y.running ≡ Some u → IsState n m y.kept u) (at_replicate n m fresh x h) (λ q. subst (IsState n m fresh.kept) (same_Some started u q) is_started) r;
  called_for = λ k x h q. absurd h;
  asked = λ b x a q. absurd a.sent;
}
  where
    is_fresh : IsRecord n fresh.kept
    is_fresh = record { promise = inl refl; votes = tt; learnt = omega arith }

    is_started : {m : ℕ} → IsState n m fresh.kept started
    is_started = record { kept = is_fresh; leads = λ l e. absurd (none-some l e); heard = λ k o. absurd o }

-- all are as the law has it
formed : (n : ℕ) (w : World) → Sound n w → IsWellFormed w
formed n w i = record {
  sent = λ k h. subst (λ j. IsMessage j k) (sym i.size) (i.sent k h);
  kept = λ m x h. subst (λ j. IsRecord j x.kept) (sym i.size) (i.kept m x h);
  runs = λ m x u h r. subst (λ j. IsState j m x.kept u) (sym i.size) (i.runs m x u h r);
  called_for = i.called_for;
}

-- Members and messages are well formed after every list of events.
pub run_is_well_formed : (app : Application) (n : ℕ) (hs : List Happening) → 1 ≤ n → n ≤ most_members → IsWellFormed (run app (start n) hs)
run_is_well_formed app n hs least most = formed n (run app (start n) hs) (run_sound n app (start n) hs (start_sound n most))
