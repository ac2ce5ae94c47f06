-- Two moments of one run.
use Rattle.std.proofs.Common.{◌≡◌, ◌∙◌, ◌≤◌, ℕ, zero, suc, refl, inl, sym, subst, ap, ap₂, List, [], ◌∷◌, ◌++◌, length, Some, arith}
use Rattle.std.proofs.lemmas.List.{map-append}
use Rattle.ballots.specs.Ballot.{most_members}
use Rattle.ballots.specs.declared.value.Value.{Value}
use Rattle.paxos.specs.Application.{Application}
use Rattle.paxos.specs.Lists.{Has, at}
use Rattle.paxos.specs.Records.{Record}
use Rattle.paxos.specs.Sound.{Sound}
use Rattle.paxos.specs.World.{World as Whole, Event as Happens, Happening, Run, run, happens, start}
use Rattle.paxos.proofs.Runs.{each_run_agrees}
use Rattle.paxos.proofs.WellFormed.{run_sound}
use Rattle.records.specs.Law.{Fate}
use Rattle.world.specs.Alike.{StayAlike}
use Rattle.world.specs.Reached.{Follows, IsUnmoved, Reached}
use Rattle.world.specs.Runs.{Ran}
use Rattle.world.specs.Shown.{World, AreKept, AreSeats}
use Rattle.world.proofs.Alike.{applied_chosen}
use Rattle.world.proofs.Growing.{Grows, run_grows, chosen_still}
use Rattle.world.proofs.Reaching.{led, reached_sound}

-- ---- lists of events, one after the other
run_on : (app : Application) (w : Whole) (hs ks : List Happening) → run app w (hs ++ ks) ≡ run app (run app w hs) ks
run_on app w [] ks = refl
run_on app w (h ∷ hs) ks = run_on app (happens app w h.choice h.event) hs ks

runs_on : (app : Application) (w v z : Whole) (events more : List Happens) → Run app w events v → Run app v more z → Run app w (events ++ more) z
runs_on app w v z events more r s = (
  r.0 ++ s.0,
  map-append (λ (h : Happening). h.event) r.0 s.0 ∙ ap₂ (λ (es fs : List Happens). es ++ fs) r.1 s.1,
  run_on app w r.0 s.0 ∙ ap (λ (x : Whole). run app x s.0) r.2 ∙ s.2,
)

-- an event, and then more of them
runs_from : (app : Application) (e : Happens) (events : List Happens) (v y z : Whole) (h : Happening) → h.event ≡ e → y ≡ happens app v h.choice h.event → Run app y events z → Run app v (e ∷ events) z
runs_from app e events v y z h is led r = (h ∷ r.0, ap₂ (λ (f : Happens) (fs : List Happens). f ∷ fs) is r.1, subst (λ (x : Whole). run app x r.0 ≡ z) led r.2)

-- ---- lists of chosen values
same_values : (first second : List Value) → ((p : ℕ) (a b : Value) → at first p ≡ Some a → at second p ≡ Some b → a ≡ b) → length first ≡ length second → first ≡ second
same_values [] [] one many = refl
same_values [] (b ∷ bs) one many = absurd (omega (arith, many))
same_values (a ∷ more) [] one many = absurd (omega (arith, many))
same_values (a ∷ more) (b ∷ bs) one many = ap₂ (λ (x : Value) (xs : List Value). x ∷ xs) (one 1 a b refl refl) (same_values more bs later (omega (arith, many)))
  where
    later : (p : ℕ) (x y : Value) → at more p ≡ Some x → at bs p ≡ Some y → x ≡ y
    later zero x y h k = one zero x y h k
    later (suc i) x y h k = one (suc (suc i)) x y h k

module _ {R A : Type 0} (stands : R → Record → Record → Type 0) (is_kept : R → Type 0) (has_applied : List (List ℕ) → List Value → A → Type 0) where
  -- a change that follows one, and one that follows that
  follows_on : (First Then Both : Whole → Whole → Type 0) (old mid new : World R A)
      → ((v y : Whole) → Sound old.members v → First v y → Sound old.members y) → ((v y z : Whole) → First v y → Then y z → Both v z)
      → Follows stands is_kept has_applied (Sound old.members) First old mid → Follows stands is_kept has_applied (Sound mid.members) Then mid new → Follows stands is_kept has_applied (Sound old.members) Both old new
  follows_on First Then Both old mid new sound joined f g = record {
    members = g.members ∙ f.members;
    names = g.names ∙ f.names;
    kept = λ k. f.kept (g.kept k);
    changes = λ k a b stand.
        let one = f.changes (g.kept k) a b stand in
        let two = g.changes k one.0 one.1 one.2 in (
          two.0,
          two.1,
          two.2,
          λ now picks.
              let back = two.3 now picks in
              let start = one.3 back.0 back.1 in (
                start.0,
                start.1,
                λ v s shows.
                    let there = start.2 v s shows in
                    let end = back.2 there.0 (subst (λ n. Sound n there.0) (sym f.members) (sound v there.0 s there.1)) there.2 in
                    (end.0, joined v there.0 end.0 there.1 end.1, end.2),
              ),
        );
  }

  module _ (failed : R → ℕ) (fates : R → ℕ → Fate) (app : Application) where
    -- events that have happened have led from each world that was shown
    pub ran_follows : (events : List Happens) (old new : World R A) → Ran stands is_kept failed fates has_applied app events old new → Follows stands is_kept has_applied (Sound old.members) (λ v z. Run app v events z) old new
    ran_follows [] old new same = subst (λ w. Follows stands is_kept has_applied (Sound old.members) (λ v z. Run app v [] z) old w) (sym same) (record {
      members = refl;
      names = refl;
      kept = λ k. k;
      changes = λ k a b stand. (a, b, stand, λ now picks. (now, picks, λ v s shows. (v, ([], refl, refl), shows)));
    })
    ran_follows (e ∷ events) old new ran =
        follows_on _ (λ y z. Run app y events z) (λ v z. Run app v (e ∷ events) z) old ran.0 new
        (λ v y s h. subst (Sound old.members) (sym h.2) (run_sound old.members app v (record { event = e; choice = h.0 } ∷ []) s))
        (λ v y z h r. runs_from app e events v y z (record { event = e; choice = h.0 }) refl h.2 r)
        ran.1
        (ran_follows events ran.0 new ran.2)

    -- the same, where nothing has happened since
    pub rested_follows : (events : List Happens) (old mid new : World R A) → Ran stands is_kept failed fates has_applied app events old mid → IsUnmoved stands is_kept has_applied mid new
        → Follows stands is_kept has_applied (Sound old.members) (λ v z. Run app v events z) old new
    rested_follows events old mid new ran still =
        follows_on (λ v y. Run app v events y) _ (λ v z. Run app v events z) old mid new
        (λ v y s r. subst (Sound old.members) r.2 (run_sound old.members app v r.0 s))
        (λ v y z r same. subst (Run app v events) (sym same) r)
        (ran_follows events old mid ran)
        still

    -- ---- two moments
    module _ (now later : World R A) (few : now.members ≤ most_members) (seats_now : AreSeats now) (seats_later : AreSeats later) where
      pub stay_alike : (before events : List Happens) → Reached stands has_applied app now before → Follows stands is_kept has_applied (Sound now.members) (λ v z. Run app v events z) now later → AreKept is_kept later → StayAlike stands has_applied app now later (before ++ events)
      stay_alike before events was f kept =
          let changed = f.changes kept was.first was.second was.stand in
          let back = changed.3 changed.0 (λ k. inl refl) in
          let there = was.runs back.0 back.1 in
          let v = there.0 in
          let sound = reached_sound app now.members few before v there.1 in
          let end = back.2 v sound there.2 in
          let z = end.0 in
          let grown : Grows v z = subst (Grows v) end.1.2 (run_grows app v end.1.0) in
          let whole : Run app (start now.members) (before ++ events) z = runs_on app (start now.members) v z before events there.1 end.1 in
          let agrees_then = each_run_agrees app now.members before v there.1 in
          let agrees = each_run_agrees app now.members (before ++ events) z whole in
          let size : length z.members ≡ later.members = grown.size ∙ sound.size ∙ sym f.members in
          record {
            members = f.members;
            names = f.names;
            reached = led stands is_kept has_applied now later kept (Run app (start now.members) before) (Run app (start later.members) (before ++ events)) (λ x y. Run app x events y)
                (reached_sound app now.members few before)
                (λ x y picked r s shows. subst (λ n. Run app (start n) (before ++ events) y) (sym f.members) (runs_on app (start now.members) x y before events r s))
                was f;
            whole = z;
            run = subst (λ n. Run app (start n) (before ++ events) z) (sym f.members) whole;
            agreement = agrees;
            sent = λ k h. subst (λ ks. Has ks k) end.2.sent (grown.sent k (subst (λ ks. Has ks k) (sym there.2.sent) h));
            told = λ t h. subst (λ ts. Has ts t) end.2.told (grown.told t (subst (λ ts. Has ts t) (sym there.2.told) h));
            chosen = λ t h. agrees.told t.member t.pair.position t.pair.value (subst (λ ts. Has ts t) (sym end.2.told) h);
            nodes_now = λ m x h.
                let a = applied_chosen has_applied now seats_now back.0 v sound.size there.2 agrees_then m x h in
                (a.0, record { applied = a.1.applied; chosen = λ p value at_p. chosen_still v z p value grown (a.1.chosen p value at_p) });
            nodes_later = λ m x h. applied_chosen has_applied later seats_later changed.0 z size end.2 agrees m x h;
            same = λ first second a b many. same_values first second (λ p x y h k. agrees.one_value p x y (a p x h) (b p y k)) many;
          }
