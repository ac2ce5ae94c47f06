-- Stops and starts of whoever sits there.
use Rattle.std.proofs.Common.{◌≡◌, ℕ, Bool, true, false, refl, sym, subst, ap, List, Option, Some, None, IsSome}
use Rattle.ballots.specs.Messages.{Packet}
use Rattle.paxos.specs.Lists.{at}
use Rattle.paxos.specs.Application.{Application}
use Rattle.paxos.specs.Records.{Record, Write, writes}
use Rattle.paxos.specs.World.{World as Whole, Start, Stop, StopInDeliver}
use Rattle.paxos.proofs.Lists.{at_has}
use Rattle.paxos.specs.Sound.{Sound}
use Rattle.ballots.specs.Terms.{Setup}
use Rattle.ballots.specs.declared.value.Value.{Value}
use Rattle.member.specs.Steps.{Hears, ticked}
use Rattle.member.specs.declared.input.Tick.{Tick}
use Rattle.node.specs.Nodes.{Node}
use Rattle.world.specs.Posts.{sent_in}
use Rattle.world.specs.Held.{IsHeld, shown}
use Rattle.world.specs.Reached.{Follows, HappenedIf, MayWrite, Steps, stop_in}
use Rattle.world.specs.Seats.{MayStart, MayStop, Skips}
use Rattle.world.specs.Shown.{Shows}
use Rattle.world.specs.declared.seat.Seat.{Seat}
use Rattle.world.specs.declared.state.State.{State}
use Rattle.world.proofs.Happening.{starts_step, stops, stops_at_delivery, stops_at_tick, stops_skipped}
use Rattle.world.proofs.Idling.{never_skipped}
use Rattle.world.proofs.Lifting.{so, so_shown}
use Rattle.world.proofs.Resting.{running_start, stopped_delivery, stopped_stop, stopped_tick}

module _ {R A : Type 0} (stands : R → Record → Record → Type 0) (is_kept : R → Type 0) (has_applied : List (List ℕ) → List Value → A → Type 0) (Does : ℕ → Write → Option Bool → Type 0) (silent : (j : ℕ) (w : Write) → writes w ≡ false → Does j w None)
    (app : Application) (old new : State R A) (m : ℕ) (s : Seat R A) (there : at old.seats.items m ≡ Some s) (held : IsHeld old) where
  -- how many members its node was told of
  many : (x : Node R A) → s.node ≡ Some x → x.setup.members ≡ old.members
  many x q = ap (λ (t : Setup). t.members) ((held.seats m s there).running x q).0

  -- a seat is empty or not
  either : (P : Type 0) → (IsSome s.node → P) → (s.node ≡ None → P) → P
  either P some none = one s.node refl
    where
      one : (o : Option (Node R A)) → s.node ≡ o → P
      one None q = none q
      one (Some x) q = some (subst (λ o. IsSome o) (sym q) refl)

  same_after : (Next : _) → shown new ≡ shown old → Follows stands is_kept has_applied (Sound old.members) Next (shown old) (shown old) → Follows stands is_kept has_applied (Sound old.members) Next (shown old) (shown new)
  same_after Next q f = subst (λ w. Follows stands is_kept has_applied (Sound old.members) Next (shown old) w) (sym q) f

  module _ (stopped : IsSome s.node → Follows stands is_kept has_applied (Sound old.members) (Steps has_applied (shown old) s m MayStop) (shown old) (shown new)) (none : s.node ≡ None → shown new ≡ shown old) where
    -- a stop
    pub stop_happens : Follows stands is_kept has_applied (Sound old.members) (HappenedIf Does app (Stop m)) (shown old) (shown new)
    stop_happens = either _
        (λ some. so (Steps has_applied (shown old) s m MayStop) (HappenedIf Does app (Stop m)) (shown old) (shown new) (λ v z sound step. stops has_applied Does app old.members (shown old) s m held.size silent v z step) (stopped some))
        (λ empty. same_after (HappenedIf Does app (Stop m)) (none empty) (stopped_stop stands is_kept has_applied Does silent app old.members held.most (shown old) m s there empty))

    -- a stop whose write is lost, in a tick
    pub tick_stop_happens : (t : Tick) → MayWrite t → Follows stands is_kept has_applied (Sound old.members) (HappenedIf Does app (stop_in m t false)) (shown old) (shown new)
    tick_stop_happens t may = either _
        (λ some. so (Steps has_applied (shown old) s m MayStop) (HappenedIf Does app (stop_in m t false)) (shown old) (shown new) (λ v z sound step. stops_at_tick has_applied Does app old.members (shown old) s m held.size silent t may v z step) (stopped some))
        (λ empty. same_after (HappenedIf Does app (stop_in m t false)) (none empty) (stopped_tick stands is_kept has_applied Does silent app old.members held.most (shown old) m s there t may false empty))

    -- and in a delivery
    pub delivery_stop_happens : (k : ℕ) (p : Packet) → at (sent_in old.group old.mail) k ≡ Some p → p.target ≡ m → Follows stands is_kept has_applied (Sound old.members) (HappenedIf Does app (StopInDeliver k false)) (shown old) (shown new)
    delivery_stop_happens k p is target = either _
        (λ some. so (Steps has_applied (shown old) s m MayStop) (HappenedIf Does app (StopInDeliver k false)) (shown old) (shown new) (λ v z sound step. stops_at_delivery has_applied Does app old.members (shown old) s m held.size silent k p is target v z step) (stopped some))
        (λ empty. same_after (HappenedIf Does app (StopInDeliver k false)) (none empty) (stopped_delivery stands is_kept has_applied Does silent app old.members held.most (shown old) m s there k p false is target empty))

    -- a stop in a tick of which nothing comes
    pub skipped_stop_happens : (t : Tick) → MayWrite t → Skips has_applied s (ticked t) → Follows stands is_kept has_applied (Sound old.members) (HappenedIf Does app (stop_in m t true)) (shown old) (shown new)
    skipped_stop_happens t may skips = one s.node refl
      where
        one : (o : Option (Node R A)) → s.node ≡ o → Follows stands is_kept has_applied (Sound old.members) (HappenedIf Does app (stop_in m t true)) (shown old) (shown new)
        one None q = same_after (HappenedIf Does app (stop_in m t true)) (none q) (stopped_tick stands is_kept has_applied Does silent app old.members held.most (shown old) m s there t may true q)
        one (Some x) q = so (Steps has_applied (shown old) s m MayStop) (HappenedIf Does app (stop_in m t true)) (shown old) (shown new)
            (λ v z sound step. stops_skipped has_applied Does app old.members (shown old) s m held.size silent t may skips x q (many x q) v z step)
            (stopped (subst (λ o. IsSome o) (sym q) refl))

    -- a stop in a delivery of which nothing comes: nobody runs there
    pub unheard_stop_happens : (k : ℕ) (p : Packet) → at (sent_in old.group old.mail) k ≡ Some p → p.target ≡ m → (m ≡ 0 → ⊥) → Skips has_applied s (Hears p)
        → Follows stands is_kept has_applied (Sound old.members) (HappenedIf Does app (StopInDeliver k true)) (shown old) (shown new)
    unheard_stop_happens k p is target least skips = one s.node refl
      where
        one : (o : Option (Node R A)) → s.node ≡ o → Follows stands is_kept has_applied (Sound old.members) (HappenedIf Does app (StopInDeliver k true)) (shown old) (shown new)
        one None q = same_after (HappenedIf Does app (StopInDeliver k true)) (none q) (stopped_delivery stands is_kept has_applied Does silent app old.members held.most (shown old) m s there k p true is target q)
        one (Some x) q = so_shown (Steps has_applied (shown old) s m MayStop) (HappenedIf Does app (StopInDeliver k true)) (shown old) (shown new)
            (λ before v z sound shows step. absurd (never before v sound shows x q))
            (stopped (subst (λ o. IsSome o) (sym q) refl))
          where
            never : (before : ℕ → Record) (v : Whole) → Sound old.members v → Shows has_applied (shown old) before v → (x : Node R A) → s.node ≡ Some x → ⊥
            never before v sound shows x q = never_skipped has_applied old.members held.most (shown old) m before v sound shows s there p (at_has (sent_in old.group old.mail) k p is) target least x q (many x q) skips

-- a start
pub start_happens : {R A : Type 0} (stands : R → Record → Record → Type 0) (is_kept : R → Type 0) (has_applied : List (List ℕ) → List Value → A → Type 0) (Does : ℕ → Write → Option Bool → Type 0) (app : Application) (old new : State R A) (m : ℕ) (s : Seat R A) → at old.seats.items m ≡ Some s → IsHeld old
    → (s.node ≡ None → Follows stands is_kept has_applied (Sound old.members) (Steps has_applied (shown old) s m (MayStart (Does m) old.members m)) (shown old) (shown new))
    → (IsSome s.node → (shown new ≡ shown old) × ((j : ℕ) (w : Write) → writes w ≡ false → Does j w None))
    → Follows stands is_kept has_applied (Sound old.members) (HappenedIf Does app (Start m)) (shown old) (shown new)
start_happens {R} {A} stands is_kept has_applied Does app old new m s there held started runs = one s.node refl
  where
    one : (o : Option (Node R A)) → s.node ≡ o → Follows stands is_kept has_applied (Sound old.members) (HappenedIf Does app (Start m)) (shown old) (shown new)
    one None q = so (Steps has_applied (shown old) s m (MayStart (Does m) old.members m)) (HappenedIf Does app (Start m)) (shown old) (shown new) (λ v z sound step. starts_step has_applied Does app old.members (shown old) s m held.size v z step) (started q)
    one (Some x) q =
        let still = runs (subst (λ o. IsSome o) (sym q) refl) in
        subst (λ w. Follows stands is_kept has_applied (Sound old.members) (HappenedIf Does app (Start m)) (shown old) w) (sym still.0)
        (running_start stands is_kept has_applied Does still.1 app old.members held.most (shown old) m s there x q)
