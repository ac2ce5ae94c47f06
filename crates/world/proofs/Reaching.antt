-- From a change of what code holds to the lists of events that lead to it.
use Rattle.std.proofs.Common.{◌≡◌, ℕ, ◌≤◌, refl, sym, subst, ap, ◌∙◌, inr, List, [], ◌∷◌, ◌++◌, length, IsSome, Some, None, Option}
use Rattle.std.proofs.lemmas.Option.{none-some, same_Some}
use Rattle.ballots.specs.Ballot.{most_members}
use Rattle.ballots.specs.Terms.{Setup}
use Rattle.ballots.specs.declared.value.Value.{Value}
use Rattle.node.specs.Nodes.{Node}
use Rattle.paxos.specs.Application.{Application}
use Rattle.paxos.specs.Knowledge.{news, prefix}
use Rattle.paxos.specs.Lists.{at}
use Rattle.paxos.specs.Records.{Record}
use Rattle.paxos.specs.Step.{Running}
use Rattle.paxos.specs.World.{World as Whole, Member as Part, Event as Happens, Run, happens, start}
use Rattle.paxos.proofs.WellFormed.{run_sound, start_sound}
use Rattle.paxos.specs.Sound.{Sound}
use Rattle.paxos.proofs.Worlds.{Run-more}
use Rattle.paxos.specs.Smooth as smooth
use Rattle.paxos.specs.Smooth.{SmoothRun}
use Rattle.straight_runs.proofs.Smooth.{smooth_more, smooth_run}
use Rattle.world.specs.Runs.{AllRun, AreUpToDate}
use Rattle.world.specs.Seats.{IsPart, IsUpToDate}
use Rattle.world.specs.Shown.{World, AreKept, AreSeats, Shows}
use Rattle.world.specs.Reached.{Follows, Happened, Reached, ReachedBy, ReachedSmoothly, Stays}
use Rattle.world.specs.declared.seat.Seat.{Seat}
use Rattle.world.proofs.Given.{some_there}
use Rattle.world.proofs.Lifting.{some_at}

-- a world that events lead to is sound
pub reached_sound : (app : Application) (n : ℕ) → n ≤ most_members → (events : List Happens) (v : Whole) → Run app (start n) events v → Sound n v
reached_sound app n few events v r = subst (Sound n) r.2 (run_sound n app (start n) r.0 (start_sound n few))

module _ {R A : Type 0} (has_applied : List (List ℕ) → List Value → A → Type 0) where
  -- a part that runs has applied all that it has learnt without a gap, where its node has
  applied_at : (s : Seat R A) (k : Record) (y : Part) (u : Running) → IsUpToDate has_applied s → IsPart has_applied s k y → y.running ≡ Some u → (n : ℕ) → ((x : Node R A) → s.node ≡ Some x → x.setup.members ≡ n) → u.applied ≡ prefix n (news u.heard)
  applied_at s k y u gone part r n many = by s.node refl
    where
      by : (o : Option (Node R A)) → s.node ≡ o → u.applied ≡ prefix n (news u.heard)
      by None e = absurd (none-some u (sym (part.stopped e) ∙ r))
      by (Some x) e =
          let p = part.running x e in
          subst (λ w. w.applied ≡ prefix n (news w.heard)) (same_Some p.0 u (sym p.1 ∙ r)) (subst (λ i. p.0.applied ≡ prefix i (news p.0.heard)) (many x e) (gone x p.0 e p.2))

  -- the part of a seat where a member runs, runs
  runs_at : (s : Seat R A) (k : Record) (y : Part) → IsSome s.node → IsPart has_applied s k y → (u : Running) × (y.running ≡ Some u)
  runs_at s k y some part =
      let x = some_there s.node some in
      let p = part.running x.0 x.1 in
      (p.0, p.1)

-- each member that is shown has applied all that it has learnt without a gap
module _ {R A : Type 0} (has_applied : List (List ℕ) → List Value → A → Type 0) (new : World R A) (size : length new.seats ≡ new.members) (seats : AreSeats new) where
  -- the seat of a member of the protocol's world, which it shows
  seat_of : (now : ℕ → Record) (z : Whole) (m : ℕ) (y : Part) → Shows has_applied new now z → at z.members m ≡ Some y → (s : Seat R A) × (at new.seats m ≡ Some s) × IsPart has_applied s (now m) y
  seat_of now z m y s h = let there = some_at z.members new.seats m y (sym s.size) h in (there.0, there.1, s.parts m there.0 y there.1 h)

  pub all_applied : AreUpToDate has_applied new → (now : ℕ → Record) (z : Whole) → Shows has_applied new now z → smooth.AllApplied z
  all_applied gone now z s m y u h r =
      let t = seat_of now z m y s h in
      subst (λ n. u.applied ≡ prefix n (news u.heard)) (sym (s.size ∙ size))
      (applied_at has_applied t.0 (now m) y u (gone m t.0 t.1) t.2 r new.members (λ x e. ap (λ (v : Setup). v.members) ((seats m t.0 t.1).running x e).0))

  all_run : AllRun new → (now : ℕ → Record) (z : Whole) → Shows has_applied new now z → smooth.AllRun z
  all_run run now z s m y h =
      let t = seat_of now z m y s h in
      runs_at has_applied t.0 (now m) y (run m t.0 t.1) t.2

module _ {R A : Type 0} (stands : R → Record → Record → Type 0) (is_kept : R → Type 0) (has_applied : List (List ℕ) → List Value → A → Type 0) (old new : World R A) (kept : AreKept is_kept new) where
  -- What leads to the world that was shown, and the change, lead to the one that is.
  pub led : (Was Is : Whole → Type 0) (Next : Whole → Whole → Type 0) → ((v : Whole) → Was v → Sound old.members v) → ((v z : Whole) (now : ℕ → Record) → Was v → Next v z → Shows has_applied new now z → Is z)
      → ReachedBy stands has_applied old Was → Follows stands is_kept has_applied (Sound old.members) Next old new → ReachedBy stands has_applied new Is
  led Was Is Next sound goes was f =
      let changed = f.changes kept was.first was.second was.stand in
      record {
        first = changed.0;
        second = changed.1;
        stand = changed.2;
        runs = λ now p.
            let before = changed.3 now p in
            let there = was.runs before.0 before.1 in
            let after = before.2 there.0 (sound there.0 there.1) there.2 in
            (after.0, goes there.0 after.0 now there.1 after.1 after.2, after.2);
      }

  module _ (app : Application) (few : old.members ≤ most_members) (events : List Happens) where
    -- An event more leads to what follows it.
    pub reaches : (e : Happens) → Follows stands is_kept has_applied (Sound old.members) (Happened app e) old new → Reached stands has_applied app old events → Reached stands has_applied app new (events ++ e ∷ [])
    reaches e f was = led (Run app (start old.members) events) (Run app (start new.members) (events ++ e ∷ [])) (Happened app e) (reached_sound app old.members few events)
        (λ v z now r h s. subst (λ n. Run app (start n) (events ++ e ∷ []) z) (sym f.members)
        (subst (Run app (start old.members) (events ++ e ∷ [])) (sym h.1) (Run-more app (start old.members) v events e h.0 r)))
        was f

    -- The same events lead to what follows nothing.
    pub reaches_still : Follows stands is_kept has_applied (Sound old.members) Stays old new → Reached stands has_applied app old events → Reached stands has_applied app new events
    reaches_still f was = led (Run app (start old.members) events) (Run app (start new.members) events) Stays (reached_sound app old.members few events)
        (λ v z now r h s. subst (λ n. Run app (start n) events z) (sym f.members) (subst (Run app (start old.members) events) (sym h) r))
        was f

    module _ (size : length new.seats ≡ new.members) (seats : AreSeats new) where
      -- An event more leads smoothly to what follows it, where each member runs then and has applied all.
      pub reaches_smoothly : (e : Happens) → AllRun new → AreUpToDate has_applied new → Follows stands is_kept has_applied (Sound old.members) (Happened app e) old new → ReachedSmoothly stands has_applied app old events → ReachedSmoothly stands has_applied app new (events ++ e ∷ [])
      reaches_smoothly e run gone f was = led (SmoothRun app old.members events) (SmoothRun app new.members (events ++ e ∷ [])) (Happened app e)
          (λ v r. reached_sound app old.members few events v (smooth_run app old.members events v r))
          (λ v z now r h s.
          let shown : Shows has_applied new now (happens app v h.0 e) = subst (Shows has_applied new now) h.1 s in
          subst (λ n. SmoothRun app n (events ++ e ∷ []) z) (sym f.members)
          (subst (SmoothRun app old.members (events ++ e ∷ [])) (sym h.1)
          (smooth_more app old.members events v e h.0 r (inr (all_run has_applied new size seats run now (happens app v h.0 e) shown)) (all_applied has_applied new size seats gone now (happens app v h.0 e) shown))))
          was f
