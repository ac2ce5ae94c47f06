-- The events of a straight run, one by one, and what it has come to.
use Rattle.std.proofs.Common.{◌≡◌, ℕ, zero, suc, ◌+◌, ◌-◌, ◌*◌, ◌<◌, ◌≤◌, arith, refl, sym, subst, ap, ◌∙◌, inl, ⊎_elim, Option, Some, None, List, [], ◌∷◌, ◌++◌, length, length-append, slice_get, take, append-nil, Bool, true, false, ◌&&◌, is_some, IfSome, IsSome}
use Rattle.std.specs.List.{list_all}
use Rattle.std.proofs.lemmas.Bool.{false≢true, cases_lt, cases_eq, le-leb, lt-leb, eq-eqb, ne_eqb}
use Rattle.std.proofs.lemmas.Option.{none-some, same_Some}
use Rattle.ballots.specs.Terms.{Request}
use Rattle.applications.specs.Limits.{applied_at}
use Rattle.ballots.specs.declared.reply.Reply.{Reply}
use Rattle.ballots.specs.declared.value.Value.{Value}
use Rattle.node.specs.Nodes.{Node, RunsAs}
use Rattle.paxos.specs.Application.{Application}
use Rattle.paxos.specs.Examples.{deliveries}
use Rattle.paxos.specs.Lists.{at}
use Rattle.paxos.specs.Records.{Record}
use Rattle.paxos.specs.Step.{Running}
use Rattle.paxos.specs.World.{Member as Part, Event as Happens, Deliver, Submits}
use Rattle.straight_runs.specs.Straight.{opening}
use Rattle.straight_runs.proofs.Ends.{all_sent, applied, told}
use Rattle.straight_runs.proofs.Lists.{at-left, at-right}
use Rattle.world.specs.Reached.{ReachedSmoothly}
use Rattle.world.specs.Runs.{AllRun, HasDone, IsStraight, LeadsTo, OneStopped, StopsAt, straight_event, straight_run}
use Rattle.world.specs.Seats.{IsPart}
use Rattle.world.specs.Shown.{World}
use Rattle.world.specs.declared.fault.WorldFault.{WorldFault}
use Rattle.world.specs.declared.fault.WorldFault.TheVariants as fault
use Rattle.world.specs.declared.seat.Seat.{Seat}
use Rattle.world.proofs.Leading.{leads_join}
use Rattle.world.proofs.Lifting.{some_at}

-- a list with an element more
pub take_more : {A : Type 0} (xs : List A) (i : ℕ) (x : A) → slice_get xs i ≡ Some x → take (suc i) xs ≡ take i xs ++ x ∷ []
take_more [] i x h = absurd (none-some x h)
take_more (y ∷ xs) zero x h = ap (λ z. z ∷ []) (same_Some y x h)
take_more (y ∷ xs) (suc i) x h = ap (λ zs. y ∷ zs) (take_more xs i x h)

pub take_step : {A : Type 0} (xs : List A) (i : ℕ) (x : A) → slice_get xs i ≡ Some x → take (i + 1) xs ≡ take i xs ++ x ∷ []
take_step xs i x h = let e : suc i ≡ i + 1 = omega arith in subst (λ k. take k xs ≡ take i xs ++ x ∷ []) e (take_more xs i x h)

-- the i-th of so many deliveries
deliveries_at : (from many i : ℕ) → i < many → slice_get (deliveries from many) i ≡ Some (Deliver (from + i))
deliveries_at from zero i h = absurd (omega arith)
deliveries_at from (suc k) zero h = ap (λ j. Some (Deliver j)) (omega arith)
deliveries_at from (suc k) (suc i) h = deliveries_at (suc from) k i (omega arith) ∙ ap (λ j. Some (Deliver j)) (omega arith)

length_deliveries : (from many : ℕ) → length (deliveries from many) ≡ many
length_deliveries from zero = refl
length_deliveries from (suc k) = ap suc (length_deliveries (suc from) k)

module _ (n m : ℕ) (q : Request) where
  length_opening : length (opening m (2 * n)) ≡ 2 * n + 1
  length_opening = ap suc (length_deliveries 1 (2 * n)) ∙ omega arith

  pub length_straight : length (straight_run n m q) ≡ n * n + 3 * n + 3
  length_straight = length-append (opening m (2 * n)) (Submits m q ∷ deliveries (2 * n + 1) (n * n + n + 1))
      ∙ omega (arith, length_opening, length_deliveries (2 * n + 1) (n * n + n + 1))

  -- the event before which there are so many
  pub straight_at : (i : ℕ) → i < n * n + 3 * n + 3 → slice_get (straight_run n m q) i ≡ Some (straight_event n m q i)
  straight_at zero h = refl
  straight_at (suc j) h = ⊎_elim in_closing in_opening (cases_lt (2 * n) (suc j))
    where
      rest : List Happens
      rest = Submits m q ∷ deliveries (2 * n + 1) (n * n + n + 1)

      in_opening : suc j ≤ 2 * n → slice_get (straight_run n m q) (suc j) ≡ Some (straight_event n m q (suc j))
      in_opening l = rw (ne_eqb (suc j) 0 (λ e. omega (arith, e)), le-leb (suc j) (2 * n) l) (at-left (opening m (2 * n)) rest (suc (suc j)) (Deliver (suc j)) (deliveries_at 1 (2 * n) j (omega arith) ∙ ap (λ k. Some (Deliver k)) (omega arith)))

      submitted : suc j ≡ 2 * n + 1 → 2 * n < suc j → slice_get (straight_run n m q) (suc j) ≡ Some (straight_event n m q (suc j))
      submitted e g = rw (ne_eqb (suc j) 0 (λ z. omega (arith, z)), lt-leb (suc j) (2 * n) g, eq-eqb (suc j) (2 * n + 1) e) (at-right (opening m (2 * n)) rest (2 * n + 1) (suc (suc j)) 1 (Submits m q) length_opening (omega (arith, e)) refl)

      delivered : (suc j ≡ 2 * n + 1 → ⊥) → 2 * n < suc j → slice_get (straight_run n m q) (suc j) ≡ Some (straight_event n m q (suc j))
      delivered d g = rw (ne_eqb (suc j) 0 (λ z. omega (arith, z)), lt-leb (suc j) (2 * n) g, ne_eqb (suc j) (2 * n + 1) d)
          (at-right (opening m (2 * n)) rest (2 * n + 1) (suc (suc j)) (suc (suc (j - (2 * n + 1)))) (Deliver (suc j - 1)) length_opening (omega (arith, d))
          (deliveries_at (2 * n + 1) (n * n + n + 1) (j - (2 * n + 1)) (omega (arith, d)) ∙ ap (λ k. Some (Deliver k)) (omega (arith, d))))

      in_closing : 2 * n < suc j → slice_get (straight_run n m q) (suc j) ≡ Some (straight_event n m q (suc j))
      in_closing g = ⊎_elim (λ (e : suc j ≡ 2 * n + 1). submitted e g) (λ (d : suc j ≡ 2 * n + 1 → ⊥). delivered d g) (cases_eq (suc j) (2 * n + 1))

both_true : (a b : Bool) → (a && b) ≡ true → (a ≡ true) × (b ≡ true)
both_true true b e = (refl, e)
both_true false b e = absurd (false≢true e)

-- members run at all seats where each was found to
pub all_found : {R A : Type 0} (w : World R A) → list_all (λ (s : Seat R A). is_some s.node) w.seats ≡ true → AllRun w
all_found {R} {A} w = found w.seats
  where
    found : (seats : List (Seat R A)) → list_all (λ (s : Seat R A). is_some s.node) seats ≡ true → (m : ℕ) (s : Seat R A) → at seats m ≡ Some s → IsSome s.node
    found seats h zero s e = absurd (none-some s e)
    found [] h (suc i) s e = absurd (none-some s e)
    found (t ∷ seats) h (suc zero) s e = subst (λ (r : Seat R A). IsSome r.node) (same_Some t s e) (both_true (is_some t.node) (list_all (λ (r : Seat R A). is_some r.node) seats) h).0
    found (t ∷ seats) h (suc (suc i)) s e = found seats (both_true (is_some t.node) (list_all (λ (r : Seat R A). is_some r.node) seats) h).1 (suc i) s e

-- Where they don't all run, one has stopped.
pub one_stopped : {R A : Type 0} (w : World R A) → list_all (λ (s : Seat R A). is_some s.node) w.seats ≡ false → OneStopped w
one_stopped {R} {A} w = found w.seats
  where
    none_there : (o : Option (Node R A)) → is_some o ≡ false → o ≡ None
    none_there None h = refl
    none_there (Some x) h = absurd (false≢true (sym h))

    found : (seats : List (Seat R A)) → list_all (λ (s : Seat R A). is_some s.node) seats ≡ false → (m : ℕ) × (s : Seat R A) × (at seats m ≡ Some s) × (s.node ≡ None)
    found [] h = absurd (false≢true (sym h))
    found (t ∷ seats) h = by (is_some t.node) refl (found seats)
      where
        later : (m : ℕ) (s : Seat R A) → at seats m ≡ Some s → at (t ∷ seats) (suc m) ≡ Some s
        later zero s e = absurd (none-some s e)
        later (suc i) s e = e

        by : (b : Bool) → is_some t.node ≡ b → (list_all (λ (s : Seat R A). is_some s.node) seats ≡ false → (m : ℕ) × (s : Seat R A) × (at seats m ≡ Some s) × (s.node ≡ None))
            → (m : ℕ) × (s : Seat R A) × (at (t ∷ seats) m ≡ Some s) × (s.node ≡ None)
        by false q rest = (1, t, refl, none_there t.node q)
        by true q rest = let o = rest (sym (ap (λ b. b && list_all (λ (s : Seat R A). is_some s.node) seats) q) ∙ h) in (suc o.0, o.1, later o.0 o.1 o.2, o.3)

-- Where the part of a seat runs and has applied one position, so does the member that sits there.
one_applied : {R A : Type 0} (has_applied : List (List ℕ) → List Value → A → Type 0) (s : Seat R A) (kept : Record) (y : Part) → IsPart has_applied s kept y → (r : Running) → y.running ≡ Some r → r.applied ≡ 1 → (o : Option (Node R A)) → s.node ≡ o
    → (x : Node R A) × (s.node ≡ Some x) × (u : Running) × RunsAs has_applied u x × (u.applied ≡ 1)
one_applied has_applied s kept y p r q a None e = absurd (none-some r (sym (p.stopped e) ∙ q))
one_applied has_applied s kept y p r q a (Some x) e =
    let u = p.running x e in
    (x, e, u.0, u.2, sym (ap (λ (v : Running). v.applied) (same_Some r u.0 (sym q ∙ u.1))) ∙ a)

-- where each reply's position is that of a value, no value has none
pub no_reply : (app : Application) → ((client number : ℕ) → IfSome (app.reply [] client number) (λ reply. (1 ≤ applied_at reply) × (applied_at reply ≤ 0))) → (client number : ℕ) → app.reply [] client number ≡ None
no_reply app ranges client number = one (app.reply [] client number) (ranges client number)
  where
    one : (o : Option Reply) → IfSome o (λ reply. (1 ≤ applied_at reply) × (applied_at reply ≤ 0)) → o ≡ None
    one None h = refl
    one (Some r) h = let a = h.0 in let b = h.1 in absurd (omega (arith, a, b))

module _ {R A : Type 0} (stands : R → Record → Record → Type 0) (is_kept : R → Type 0) (has_applied : List (List ℕ) → List Value → A → Type 0) (app : Application) where
  -- What happened before, and an event that a fault stops, are some of the events.
  pub stopped_at : (old mid new : World R A) (events : List Happens) (i : ℕ) (e : Happens) (fault : WorldFault) → i < length events → slice_get events i ≡ Some e
      → LeadsTo stands is_kept has_applied app old mid (take i events) → StopsAt stands is_kept has_applied app mid new e i fault → HasDone stands is_kept has_applied app old new events fault
  stopped_at old mid new events i e (fault.Memory done) l h was s = ⊎_elim
      (λ (o : (done ≡ i) × LeadsTo stands is_kept has_applied app mid new []). (
        omega (arith, o.0, l),
        subst (λ k. LeadsTo stands is_kept has_applied app old new (take k events)) (sym o.0) (subst (LeadsTo stands is_kept has_applied app old new) (append-nil (take i events)) (leads_join stands is_kept has_applied app old mid new (take i events) [] was o.1)),
      ))
      (λ (o : (done ≡ suc i) × LeadsTo stands is_kept has_applied app mid new (e ∷ [])). (
        omega (arith, o.0, l),
        subst (λ k. LeadsTo stands is_kept has_applied app old new (take k events)) (sym o.0) (subst (LeadsTo stands is_kept has_applied app old new) (sym (take_more events i e h)) (leads_join stands is_kept has_applied app old mid new (take i events) (e ∷ []) was o.1)),
      ))
      s
  stopped_at old mid new events i e fault.Member l h was s = absurd s
  stopped_at old mid new events i e fault.Store l h was s =
      (suc i, omega arith, subst (LeadsTo stands is_kept has_applied app old new) (sym (take_more events i e h)) (leads_join stands is_kept has_applied app old mid new (take i events) (e ∷ []) was s.0), s.1)

  -- What the straight run of a fresh world has come to.
  pub ends_straight : ((client number : ℕ) → app.reply [] client number ≡ None) → (w : World R A) (m : ℕ) (q : Request) → 1 ≤ m → m ≤ w.members → length w.seats ≡ w.members
      → ReachedSmoothly stands has_applied app w (straight_run w.members m q) → IsStraight has_applied w q (w.members * w.members + 3 * w.members + 1)
  ends_straight nothing w m q least most size r =
      let led = r.runs r.first (λ k. inl refl) in
      record {
        sent = ap length (sym led.2.sent) ∙ all_sent app w.members m q led.0 least most (nothing q.client q.number) led.1;
        told = sym led.2.told ∙ told app w.members m q led.0 least most (nothing q.client q.number) led.1;
        size = size;
        applied = λ k s h.
            let y = some_at w.seats led.0.members k s led.2.size h in
            let p = led.2.parts k s y.0 h y.1 in
            let a = applied app w.members m q k led.0 least most (at_least w.seats k s h) (subst (λ j. k ≤ j) size (at_most w.seats k s h)) (nothing q.client q.number) led.1 in
            let same_part : a.1.is ≡ y.0 = same_Some a.1.is y.0 (sym a.1.there ∙ y.1) in
            one_applied has_applied s (r.first k) y.0 p a.0 (ap (λ (z : Part). z.running) (sym same_part) ∙ a.1.running) a.2 s.node refl;
      }
    where
      at_least : {A : Type 0} (xs : List A) (k : ℕ) (x : A) → at xs k ≡ Some x → 1 ≤ k
      at_least xs zero x h = absurd (none-some x h)
      at_least xs (suc i) x h = omega arith

      at_most : {A : Type 0} (xs : List A) (k : ℕ) (x : A) → at xs k ≡ Some x → k ≤ length xs
      at_most xs zero x h = omega arith
      at_most [] (suc i) x h = absurd (none-some x h)
      at_most (y ∷ xs) (suc zero) x h = omega arith
      at_most (y ∷ xs) (suc (suc i)) x h = omega (arith, at_most xs (suc i) x h)
