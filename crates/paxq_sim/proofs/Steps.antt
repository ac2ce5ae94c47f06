-- One command more.
use Rattle.std.proofs.Common.{◌≡◌, ℕ, zero, suc, ◌+◌, ◌<◌, ◌≤◌, arith, refl, sym, subst, ap, ◌∙◌, Bool, true, false, ◌&&◌, ◌||◌, not, nat_eq, nat_lt, List, [], ◌∷◌, ◌++◌, append-nil, map, length, cond}
use Rattle.std.proofs.lemmas.Bool.{le-ltb, lt-ltb}
use Rattle.std.proofs.lemmas.List.{map-append}
use Rattle.std.proofs.lemmas.List.Elements.{filter-append}
use Rattle.std.proofs.lemmas.List.Folds.{list_any-append}
use Rattle.records.specs.Script.{Script}
use Rattle.ballots.specs.Ballot.{most_members}
use Rattle.ballots.specs.Messages.{up_to}
use Rattle.event_files.specs.declared.command.Command.{Command}
use Rattle.event_files.specs.declared.command.Command.TheVariants.{Happens, DeliverAll}
use Rattle.event_files.specs.declared.first.Failure.{Failure}
use Rattle.paxos.specs.Application.{Application}
use Rattle.paxos.specs.World.{World as Whole, Event, Deliver, start}
use Rattle.paxos.proofs.WellFormed.{start_sound}
use Rattle.events.specs.Events.{event_of}
use Rattle.world.specs.Shown.{World}
use Rattle.events.specs.declared.event.Event.{Event as EventOfFile}
use Rattle.paxq_sim.specs.Going.{Comes, Delivers, IsKnown}
use Rattle.paxq_sim.specs.Play.{Progress, Plays, State, Takes, after_all, choice_in, is_among, is_undelivered, named_by, named_in, next, opening, undelivered, with_deliveries, with_event}
use Rattle.paxq_sim.proofs.Growing.{happens_grows}
use Rattle.paxq_sim.proofs.Stepping.{Leads}

-- a command more
pub plays_more : (app : Application) (failures : List Failure) (p q r : Progress) (done : List Command) (command : Command) → Plays app failures p done q → Takes app failures q command r
    → Plays app failures p (done ++ command ∷ []) r
plays_more app failures p q r [] command h t = (r, subst (λ x. Takes app failures x command r) h t, refl)
plays_more app failures p q r (c ∷ cs) command h t = (h.0, h.1, plays_more app failures h.0 q r cs command h.2 t)

-- an event more
pub after_more : (app : Application) (failures : List Failure) (s : State) (es : List Event) (e : Event) → after_all app failures s (es ++ e ∷ []) ≡ next app failures (after_all app failures s es) e
after_more app failures s [] e = refl
after_more app failures s (x ∷ es) e = after_more app failures (next app failures s x) es e

-- nothing up to what was delivered is undelivered
none_up_to : (p : Progress) (j : ℕ) → j ≤ p.delivered → undelivered p j ≡ []
none_up_to p zero h = refl
none_up_to p (suc j) h =
    let low : nat_lt p.delivered (suc j) ≡ false = le-ltb p.delivered (suc j) h in
    filter-append (is_undelivered p) (up_to j) (suc j ∷ []) ∙ (λ i. none_up_to p j (omega (arith, h)) i ++ cond (low i && not (is_among p.named (suc j))) (suc j ∷ []) [])

-- the next number, named or not
next_named : (p : Progress) (d : ℕ) → is_among p.named (suc d) ≡ true → undelivered p (suc d) ≡ undelivered p d
next_named p d h =
    filter-append (is_undelivered p) (up_to d) (suc d ∷ [])
    ∙ by (nat_lt p.delivered (suc d))
  where
    by : (b : Bool) → undelivered p d ++ cond (b && not (is_among p.named (suc d))) (suc d ∷ []) [] ≡ undelivered p d
    by true = (λ i. undelivered p d ++ cond (not (h i)) (suc d ∷ []) []) ∙ append-nil (undelivered p d)
    by false = append-nil (undelivered p d)

next_left : (p : Progress) (d : ℕ) → p.delivered ≤ d → is_among p.named (suc d) ≡ false → undelivered p (suc d) ≡ undelivered p d ++ suc d ∷ []
next_left p d least h =
    let high : nat_lt p.delivered (suc d) ≡ true = lt-ltb p.delivered (suc d) (omega (arith, least)) in
    filter-append (is_undelivered p) (up_to d) (suc d ∷ []) ∙ (λ i. undelivered p d ++ cond (high i && not (h i)) (suc d ∷ []) [])

module _ {A : Type 0} (app : Application) (failures : List Failure) (n : ℕ) where
  -- nothing has happened
  pub opening_comes : (w : World Script A) → n ≤ most_members → IsKnown failures w (λ m. 0) → Comes app failures n [] w 0 [] (start n)
  opening_comes w few known = record {
    progress = opening n;
    plays = refl;
    world_is = refl;
    known = known;
    delivered_is = refl;
    named_are = λ k. refl;
    within = omega arith;
    sound = start_sound n few;
  }

  module _ (done : List Command) where
    -- an event more
    pub event_comes : (e : EventOfFile) (old new : World Script A) (d : ℕ) (named more : List ℕ) (v z : Whole) → ((k : ℕ) → is_among more k ≡ (is_among named k || is_among (named_in d (length v.sent) e) k))
        → (was : Comes app failures n done old d named v) → Leads app failures n was.progress.state (event_of e) new z → Comes app failures n (done ++ Happens e ∷ []) new d more z
    event_comes e old new d named more v z adds was h = record {
      progress = with_event app failures was.progress e;
      plays = plays_more app failures (opening n) was.progress (with_event app failures was.progress e) done (Happens e) was.plays refl;
      world_is = h.world_is;
      known = h.known;
      delivered_is = was.delivered_is;
      named_are = λ k. list_any-append (nat_eq k) was.progress.named (named_by was.progress e)
          ∙ (λ i. was.named_are k i || is_among (named_in (was.delivered_is i) (length (was.world_is i).sent) e) k) ∙ sym (adds k);
      within = subst (λ (x : Whole). d ≤ length x.sent) h.world_is
          (omega (arith, was.within, ap (λ (x : Whole). length x.sent) was.world_is, happens_grows was.progress.state.world app (choice_in app failures was.progress.state (event_of e)) (event_of e)));
      sound = h.sound;
    }

    -- all messages are about to be delivered
    pub begins_delivering : (w : World Script A) (d : ℕ) (named : List ℕ) (v : Whole) → Comes app failures n done w d named v → Delivers app failures n done w d named v
    begins_delivering w d named v was = record {
      progress = was.progress;
      plays = was.plays;
      state = was.progress.state;
      state_is = ap (λ ks. after_all app failures was.progress.state (map Deliver ks)) (sym (none_up_to was.progress d (omega (arith, was.delivered_is))));
      world_is = was.world_is;
      known = was.known;
      above = omega (arith, was.delivered_is);
      named_are = was.named_are;
      within = was.within;
      sound = was.sound;
    }

    -- the next one was named
    pub passes_named : (w : World Script A) (d : ℕ) (named : List ℕ) (v : Whole) → is_among named (d + 1) ≡ true → d < length v.sent → Delivers app failures n done w d named v → Delivers app failures n done w (d + 1) named v
    passes_named w d named v is left was =
        let next : suc d ≡ d + 1 = omega arith in
        record {
          progress = was.progress;
          plays = was.plays;
          state = was.state;
          state_is = was.state_is ∙ ap (λ ks. after_all app failures was.progress.state (map Deliver ks))
              (sym (next_named was.progress d (was.named_are (suc d) ∙ subst (λ k. is_among named k ≡ true) (sym next) is)) ∙ ap (undelivered was.progress) next);
          world_is = was.world_is;
          known = was.known;
          above = omega (arith, was.above);
          named_are = was.named_are;
          within = omega (arith, left);
          sound = was.sound;
        }

    -- the next one is delivered
    pub delivers_next : (old new : World Script A) (d : ℕ) (named : List ℕ) (v z : Whole) → is_among named (d + 1) ≡ false → d < length v.sent → (was : Delivers app failures n done old d named v)
        → Leads app failures n was.state (Deliver (d + 1)) new z → Delivers app failures n done new (d + 1) named z
    delivers_next old new d named v z is left was h =
        let succ : suc d ≡ d + 1 = omega arith in
        let p = was.progress in
        let all : undelivered p (d + 1) ≡ undelivered p d ++ (d + 1) ∷ [] =
        subst (λ k. undelivered p k ≡ undelivered p d ++ k ∷ []) succ (next_left p d was.above (was.named_are (suc d) ∙ subst (λ k. is_among named k ≡ false) (sym succ) is)) in
        record {
          progress = p;
          plays = was.plays;
          state = next app failures was.state (Deliver (d + 1));
          state_is = ap (λ s. next app failures s (Deliver (d + 1))) was.state_is
              ∙ sym (ap (after_all app failures p.state) (ap (map Deliver) all ∙ map-append Deliver (undelivered p d) ((d + 1) ∷ []))
              ∙ after_more app failures p.state (map Deliver (undelivered p d)) (Deliver (d + 1)));
          world_is = h.world_is;
          known = h.known;
          above = omega (arith, was.above);
          named_are = was.named_are;
          within = subst (λ (x : Whole). d + 1 ≤ length x.sent) h.world_is
              (omega (arith, left, ap (λ (x : Whole). length x.sent) was.world_is, happens_grows was.state.world app (choice_in app failures was.state (Deliver (d + 1))) (Deliver (d + 1))));
          sound = h.sound;
        }

    -- all were delivered
    pub ends_delivering : (w : World Script A) (d : ℕ) (named none : List ℕ) (v : Whole) → none ≡ [] → length v.sent ≤ d → Delivers app failures n done w d named v → Comes app failures n (done ++ DeliverAll ∷ []) w d none v
    ends_delivering w d named none v empty all was =
        let last : d ≡ length v.sent = omega (arith, all, was.within) in
        record {
          progress = with_deliveries app failures was.progress d;
          plays = plays_more app failures (opening n) was.progress (with_deliveries app failures was.progress d) done DeliverAll was.plays
              (d, refl, last ∙ ap (λ (x : Whole). length x.sent) (sym was.world_is) ∙ ap (λ (x : State). length x.world.sent) was.state_is);
          world_is = ap (λ (x : State). x.world) (sym was.state_is) ∙ was.world_is;
          known = subst (λ (x : State). IsKnown failures w x.written) was.state_is was.known;
          delivered_is = refl;
          named_are = λ k. ap (λ xs. is_among xs k) (sym empty);
          within = was.within;
          sound = was.sound;
        }
