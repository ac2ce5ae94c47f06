-- From a change of what code holds to the commands that lead to it.
use Rattle.std.proofs.Common.{◌≡◌, ℕ, ◌<◌, ◌≤◌, ◌+◌, ◌-◌, ◌^◌, arith, min, refl, sym, subst, ap, ◌∙◌, inl, true, false, Result, Ok, Err, OnOk, ◌||◌, List, [], ◌∷◌, ◌++◌, length, Option, Some, None}
use Rattle.std.specs.Option.{option_and_then}
use Rattle.std.proofs.lemmas.Option.{none-some, same_Some}
use Rattle.records.specs.Script.{IsKept, Script, Stands, fails_at, fates_of}
use Rattle.ballots.specs.Ballot.{most_members}
use Rattle.ballots.specs.Messages.{up_to}
use Rattle.event_files.specs.declared.first.Failure.{Failure}
use Rattle.paxos.specs.Lists.{at, Has}
use Rattle.paxos.proofs.Lists.{has_map}
use Rattle.paxq_sim.specs.Stores.{plan_of, store_of, stores_of}
use Rattle.event_files.specs.declared.command.Command.{Command}
use Rattle.event_files.specs.declared.command.Command.TheVariants.{Happens, DeliverAll}
use Rattle.ballots.specs.declared.value.Value.{Value}
use Rattle.paxos.specs.Application.{Application}
use Rattle.paxos.specs.Records.{Record}
use Rattle.paxos.specs.World.{World as Whole, Deliver, Event as HappensThere, Run, fresh, start}
use Rattle.paxos.proofs.WellFormed.{at_number}
use Rattle.paxos.specs.Sound.{Sound}
use Rattle.paxos.specs.Smooth.{AllApplied}
use Rattle.straight_runs.proofs.Lists.{at_each, length_each}
use Rattle.world.specs.Placed.{AreOf}
use Rattle.events.specs.Events.{event_of}
use Rattle.world.specs.Reached.{Follows, HappenedOver, HasHappened, Reached, ReachedBy}
use Rattle.world.specs.Seats.{fates_of as fates_in, store_in}
use Rattle.world.specs.Shown.{World, AreKept, Shows}
use Rattle.events.specs.declared.event.Event.{Event}
use Rattle.world.specs.declared.seat.Seat.{Seat}
use Rattle.world.proofs.Begun.{of_at}
use Rattle.world.proofs.Reaching.{led}
use Rattle.paxq_sim.specs.Going.{Comes, Delivers, HasCome, IsDelivering, IsKnown}
use Rattle.paxq_sim.specs.Play.{State, fate, is_among, named_in}
use Rattle.paxq_sim.proofs.Stepping.{Leads, leads}
use Rattle.paxq_sim.proofs.Steps.{begins_delivering, delivers_next, ends_delivering, event_comes, opening_comes, passes_named}

-- what follows from two facts of what is given
pub ok_both : {A E : Type 0} (r : Result A E) (P Q R : Type 0) → (P → Q → R) → OnOk r P → OnOk r Q → OnOk r R
ok_both (Ok x) P Q R f h k = f h k
ok_both (Err e) P Q R f h k = tt

-- records by script are always kept
pub all_kept : {A : Type 0} (w : World Script A) → AreKept IsKept w
all_kept w m s h = record { running = λ x q. tt; stopped = λ r q e. tt }

-- nobody has written the stores of a file
pub unwritten : (failures : List Failure) (n : ℕ) (r : Script) → Has (stores_of n failures) r → Stands r fresh.kept fresh.kept
unwritten failures n r h = let one = has_map (store_of failures) (up_to n) r h in inl (ap (λ (s : Script). s.kept) (sym one.1))

-- what is led to leads to what follows from it
followed : {A : Type 0} (has_applied : List (List ℕ) → List Value → A → Type 0) (w : World Script A) (P Q : Whole → Type 0) → ((v : Whole) (kept : ℕ → Record) → P v → Shows has_applied w kept v → Q v) → ReachedBy Stands has_applied w P → ReachedBy Stands has_applied w Q
followed has_applied w P Q f r = record {
  first = r.first;
  second = r.second;
  stand = r.stand;
  runs = λ kept p. let there = r.runs kept p in (there.0, f there.0 kept there.1 there.2, there.2);
}

-- one of the worlds that are led to
pub one_of : {A : Type 0} (has_applied : List (List ℕ) → List Value → A → Type 0) (w : World Script A) (P : Whole → Type 0) → ReachedBy Stands has_applied w P → (v : Whole) × P v × (kept : ℕ → Record) × Shows has_applied w kept v
one_of has_applied w P r = let there = r.runs r.first (λ m. inl refl) in (there.0, there.1, r.first, there.2)

-- An event leads on from what leads to the world before it.
event_leads : {A : Type 0} (has_applied : List (List ℕ) → List Value → A → Type 0) (app : Application) (e : HappensThere) (old new : World Script A) (Was Is : Whole → Type 0) → ((kept : ℕ → Record) (v : Whole) → Shows has_applied new kept v → AllApplied v)
    → ((v : Whole) → Was v → Sound old.members v) → ((v z : Whole) → Was v → v.sent ≡ old.sent → HappenedOver (λ (s : Script). s.failures) fates_of old.seats new.seats app e v z → AllApplied z → Is z)
    → Follows Stands IsKept has_applied (Sound old.members) (HappenedOver (λ (s : Script). s.failures) fates_of old.seats new.seats app e) old new → ReachedBy Stands has_applied old Was → ReachedBy Stands has_applied new Is
event_leads has_applied app e old new Was Is applied sound goes f r =
    led Stands IsKept has_applied old new (all_kept new) (λ v. Was v × (v.sent ≡ old.sent)) Is (HappenedOver (λ (s : Script). s.failures) fates_of old.seats new.seats app e) (λ v w. sound v w.0)
    (λ v z now w h s. goes v z w.0 w.1 h (applied now z s))
    (followed has_applied old Was (λ v. Was v × (v.sent ≡ old.sent)) (λ v kept w s. (w, s.sent)) r) f

-- no events lead nowhere else
at_start : (app : Application) (v w : Whole) → Run app w [] v → w ≡ v
at_start app v w ([], e, h) = h
at_start app v w (x ∷ xs, e, h) = cc

-- what is known of the stores at first is what the file says
opening_known : {A : Type 0} (failures : List Failure) (n : ℕ) (w : World Script A) → AreOf fates_of w.seats (stores_of n failures) → IsKnown failures w (λ m. 0)
opening_known {A} failures n w all m r q k = by (at w.seats m) refl
  where
    by : (o : Option (Seat Script A)) → at w.seats m ≡ o → fates_of r k ≡ Some (fate failures m (0 + k))
    by None p = absurd (none-some r (sym (ap (option_and_then (λ (s : Seat Script A). store_in s)) p) ∙ q))
    by (Some s) p =
        let there = of_at fates_of w.seats (stores_of n failures) all m s p in
        let is : store_in s ≡ Some r = sym (ap (option_and_then (λ (t : Seat Script A). store_in t)) p) ∙ q in
        ap (λ o. fates_in fates_of o k) (sym is) ∙ there.2 k ∙ ap (λ (t : Script). fates_of t k) (stored m there.0 there.1)
        ∙ ap (λ i. Some (fails_at (min i (2 ^ 64 - 1)) (plan_of m failures))) (omega arith)
      where
        stored : (m : ℕ) (r : Script) → at (stores_of n failures) m ≡ Some r → r ≡ store_of failures m
        stored m r h =
            let number = at_number (stores_of n failures) m r h in
            same_Some r (store_of failures m) (sym h ∙ at_each n m (store_of failures) number.0 (subst (λ i. m ≤ i) (length_each n (store_of failures)) number.1))

module _ {A : Type 0} (has_applied : List (List ℕ) → List Value → A → Type 0) (meaning : List (List ℕ) → Application) (failures : List Failure) (n : ℕ) (names : List (List ℕ)) where
  abbrev app : Application
  app = meaning names

  -- nothing has happened
  pub begun : (w : World Script A) → w.members ≡ n → w.names ≡ names → n ≤ most_members → AreOf fates_of w.seats (stores_of n failures) → Reached Stands has_applied app w [] → HasCome has_applied meaning failures n names [] w 0 []
  begun w members same few stores r = (
    members,
    same,
    followed has_applied w (Run app (start w.members) []) (Comes app failures n [] w 0 [])
        (λ v kept run s. subst (Comes app failures n [] w 0 []) (at_start app v (start n) (subst (λ k. Run app (start k) [] v) members run)) (opening_comes app failures n w few (opening_known failures n w stores))) r,
  )

  -- an event in the world of a state
  leads_on : (e : HappensThere) (old new : World Script A) (s : State) (v z : Whole) → s.world ≡ v → Sound n v → IsKnown failures old s.written
      → HappenedOver (λ (r : Script). r.failures) fates_of old.seats new.seats app e v z → AllApplied z → Leads app failures n s e new z
  leads_on e old new s v z is sound known h all =
      leads app failures n s e old new (subst (Sound n) (sym is) sound) known z (subst (λ x. HappenedOver (λ (r : Script). r.failures) fates_of old.seats new.seats app e x z) (sym is) h) all

  -- it has happened where the application means what it means over these documents
  over_names : (e : HappensThere) (old new : World Script A) → old.names ≡ names → HasHappened Stands IsKept (λ (s : Script). s.failures) fates_of has_applied (meaning old.names) e old new
      → Follows Stands IsKept has_applied (Sound old.members) (HappenedOver (λ (s : Script). s.failures) fates_of old.seats new.seats app e) old new
  over_names e old new same f = subst (λ ns. HasHappened Stands IsKept (λ (s : Script). s.failures) fates_of has_applied (meaning ns) e old new) same f

  module _ (done : List Command) where
    -- an event
    pub event_led : (e : Event) (old new : World Script A) (d : ℕ) (named more : List ℕ) → ((k : ℕ) → is_among more k ≡ (is_among named k || is_among (named_in d (length old.sent) e) k))
        → ((kept : ℕ → Record) (v : Whole) → Shows has_applied new kept v → AllApplied v)
        → HasHappened Stands IsKept (λ (s : Script). s.failures) fates_of has_applied (meaning old.names) (event_of e) old new
        → HasCome has_applied meaning failures n names done old d named → HasCome has_applied meaning failures n names (done ++ Happens e ∷ []) new d more
    event_led e old new d named more adds applied f was = (
      f.members ∙ was.0,
      f.names ∙ was.1,
      event_leads has_applied app (event_of e) old new (Comes app failures n done old d named) (Comes app failures n (done ++ Happens e ∷ []) new d more) applied (λ v w. subst (λ k. Sound k v) (sym was.0) w.sound)
          (λ v z w same h all. event_comes app failures n done e old new d named more v z (λ k. adds k ∙ (λ i. is_among named k || is_among (named_in d (length (sym same i)) e) k)) w
          (leads_on (event_of e) old new w.progress.state v z w.world_is w.sound w.known h all))
          (over_names (event_of e) old new was.1 f) was.2,
    )

    -- `deliver all`: its beginning, a message that was named, one that is delivered, its end
    pub delivering : (w : World Script A) (d : ℕ) (named : List ℕ) → HasCome has_applied meaning failures n names done w d named → IsDelivering has_applied meaning failures n names done w d named
    delivering w d named was = (was.0, was.1, followed has_applied w (Comes app failures n done w d named) (Delivers app failures n done w d named) (λ v kept c s. begins_delivering app failures n done w d named v c) was.2)

    pub passed : (w : World Script A) (d : ℕ) (named : List ℕ) → is_among named (d + 1) ≡ true → d < length w.sent → IsDelivering has_applied meaning failures n names done w d named → IsDelivering has_applied meaning failures n names done w (d + 1) named
    passed w d named is left was = (
      was.0,
      was.1,
      followed has_applied w (Delivers app failures n done w d named) (Delivers app failures n done w (d + 1) named)
          (λ v kept c s. passes_named app failures n done w d named v is (subst (λ xs. d < length xs) (sym s.sent) left) c) was.2,
    )

    pub delivered : (old new : World Script A) (d : ℕ) (named : List ℕ) → is_among named (d + 1) ≡ false → d < length old.sent
        → ((kept : ℕ → Record) (v : Whole) → Shows has_applied new kept v → AllApplied v)
        → HasHappened Stands IsKept (λ (s : Script). s.failures) fates_of has_applied (meaning old.names) (Deliver (d + 1)) old new
        → IsDelivering has_applied meaning failures n names done old d named → IsDelivering has_applied meaning failures n names done new (d + 1) named
    delivered old new d named is left applied f was = (
      f.members ∙ was.0,
      f.names ∙ was.1,
      event_leads has_applied app (Deliver (d + 1)) old new (Delivers app failures n done old d named) (Delivers app failures n done new (d + 1) named) applied (λ v w. subst (λ k. Sound k v) (sym was.0) w.sound)
          (λ v z w same h all. delivers_next app failures n done old new d named v z is (subst (λ xs. d < length xs) (sym same) left) w
          (leads_on (Deliver (d + 1)) old new w.state v z w.world_is w.sound w.known h all))
          (over_names (Deliver (d + 1)) old new was.1 f) was.2,
    )

    pub ended : (w : World Script A) (d : ℕ) (named none : List ℕ) → none ≡ [] → length w.sent ≤ d → IsDelivering has_applied meaning failures n names done w d named → HasCome has_applied meaning failures n names (done ++ DeliverAll ∷ []) w d none
    ended w d named none empty all was = (
      was.0,
      was.1,
      followed has_applied w (Delivers app failures n done w d named) (Comes app failures n (done ++ DeliverAll ∷ []) w d none)
          (λ v kept c s. ends_delivering app failures n done w d named none v empty (subst (λ xs. length xs ≤ d) (sym s.sent) all) c) was.2,
    )
