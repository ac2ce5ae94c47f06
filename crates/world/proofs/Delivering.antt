-- Events that change nothing of what is shown.
use Rattle.std.proofs.Common.{◌≡◌, ◌≤◌, ℕ, Bool, true, false, refl, sym, ap, ◌∙◌, Option, Some, None, length, List}
use Rattle.ballots.specs.Ballot.{most_members}
use Rattle.ballots.specs.Messages.{Packet}
use Rattle.ballots.specs.Terms.{Setup}
use Rattle.ballots.specs.declared.value.Value.{Value}
use Rattle.member.specs.Steps.{Hears}
use Rattle.node.specs.Nodes.{Node}
use Rattle.paxos.specs.Lists.{at}
use Rattle.paxos.specs.Application.{Application}
use Rattle.paxos.specs.Records.{Record, Write, Nothing, writes}
use Rattle.paxos.specs.Step.{Running, Effect, on_message}
use Rattle.paxos.specs.World.{World as Whole, Choice, Deliver, StopInDeliver, acts, delivers, keeps_in, settles, stops_in}
use Rattle.paxos.proofs.Lists.{at_has}
use Rattle.paxos.specs.Sound.{Sound}
use Rattle.world.specs.Reached.{Follows, HappenedIf, reader, write_upon}
use Rattle.world.specs.Seats.{SkipsAt}
use Rattle.world.specs.Shown.{World, AreSeats, Shows}
use Rattle.world.proofs.Idling.{never_skipped, nobody_silent, nobody_still, stopped_silent, stopped_still}
use Rattle.world.proofs.Lifting.{idle}

-- a choice where nothing is open
abbrev any : Choice
any = record { fails = None; applied = 0 }

module _ {R A : Type 0} (stands : R → Record → Record → Type 0) (is_kept : R → Type 0) (has_applied : List (List ℕ) → List Value → A → Type 0) (Does : ℕ → Write → Option Bool → Type 0) (silent : (j : ℕ) (w : Write) → writes w ≡ false → Does j w None)
    (app : Application) (n : ℕ) (few : n ≤ most_members) (w : World R A) where
  -- an unknown number, or a message to no member
  pub unknown : (k : ℕ) → ((p : Packet) → at w.sent k ≡ Some p → at w.seats p.target ≡ None)
      → (how : (v : Whole) → Effect → Effect) (before : ℕ → Record) (v : Whole) → Sound n v → Shows has_applied w before v → delivers app v (how v) (at v.sent k) ≡ v
  unknown k none how before v sound shows = one (at v.sent k) refl
    where
      one : (o : Option Packet) → at v.sent k ≡ o → delivers app v (how v) o ≡ v
      one None q = refl
      one (Some p) q = nobody_still has_applied n few w p.target before v sound shows (none p (sym (ap (λ xs. at xs k) shows.sent) ∙ q)) (λ r u. how v (on_message app (length v.members) p.target p r u))

  pub unknown_silent : (k : ℕ) → ((p : Packet) → at w.sent k ≡ Some p → at w.seats p.target ≡ None) → (before : ℕ → Record) (v : Whole) → Sound n v → Shows has_applied w before v → writes (write_upon app v (at v.sent k)) ≡ false
  unknown_silent k none before v sound shows = one (at v.sent k) refl
    where
      one : (o : Option Packet) → at v.sent k ≡ o → writes (write_upon app v o) ≡ false
      one None q = refl
      one (Some p) q = nobody_silent has_applied n few w p.target before v sound shows (none p (sym (ap (λ xs. at xs k) shows.sent) ∙ q)) (on_message app (length v.members) p.target p)

  -- a running member skips no message that was sent to it
  hears_it : (k : ℕ) (p : Packet) → at w.sent k ≡ Some p → (p.target ≡ 0 → ⊥) → AreSeats w → w.members ≡ n → (skips : SkipsAt has_applied w.seats p.target (Hears p)) → (before : ℕ → Record) (v : Whole) → Sound n v → Shows has_applied w before v
      → (x : Node R A) → skips.0.node ≡ Some x → ⊥
  hears_it k p is target seats many skips before v sound shows x q =
      never_skipped has_applied n few w p.target before v sound shows skips.0 skips.1 p (at_has w.sent k p is) refl target x q (ap (λ (t : Setup). t.members) ((seats p.target skips.0 skips.1).running x q).0 ∙ many) skips.2

  -- a message that nothing comes of
  pub skipped : (k : ℕ) (p : Packet) → at w.sent k ≡ Some p → (p.target ≡ 0 → ⊥) → AreSeats w → w.members ≡ n → SkipsAt has_applied w.seats p.target (Hears p)
      → (how : (v : Whole) → Effect → Effect) (before : ℕ → Record) (v : Whole) → Sound n v → Shows has_applied w before v → delivers app v (how v) (at v.sent k) ≡ v
  skipped k p is target seats many skips how before v sound shows =
      ap (delivers app v (how v)) (ap (λ xs. at xs k) shows.sent ∙ is) ∙ one skips.0.node refl
    where
      step : Record → Running → Effect
      step r u = how v (on_message app (length v.members) p.target p r u)

      one : (o : Option (Node R A)) → skips.0.node ≡ o → acts v p.target step ≡ v
      one None q = stopped_still has_applied n few w p.target before v sound shows skips.0 skips.1 q step
      one (Some x) q = absurd (hears_it k p is target seats many skips before v sound shows x q)

  pub skipped_silent : (k : ℕ) (p : Packet) → at w.sent k ≡ Some p → (p.target ≡ 0 → ⊥) → AreSeats w → w.members ≡ n → SkipsAt has_applied w.seats p.target (Hears p)
      → (before : ℕ → Record) (v : Whole) → Sound n v → Shows has_applied w before v → writes (write_upon app v (at v.sent k)) ≡ false
  skipped_silent k p is target seats many skips before v sound shows = ap (λ o. writes (write_upon app v o)) (ap (λ xs. at xs k) shows.sent ∙ is) ∙ one skips.0.node refl
    where
      one : (o : Option (Node R A)) → skips.0.node ≡ o → writes (write_upon app v (Some p)) ≡ false
      one None q = stopped_silent has_applied n few w p.target before v sound shows skips.0 skips.1 q (on_message app (length v.members) p.target p)
      one (Some x) q = absurd (hears_it k p is target seats many skips before v sound shows x q)

  -- so for a delivery
  pub unknown_delivery : (k : ℕ) → ((p : Packet) → at w.sent k ≡ Some p → at w.seats p.target ≡ None) → Follows stands is_kept has_applied (Sound n) (HappenedIf Does app (Deliver k)) w w
  unknown_delivery k none = idle (HappenedIf Does app (Deliver k)) w (λ before v sound shows. (
    any,
    silent (reader (at v.sent k)) _ (unknown_silent k none before v sound shows),
    sym (unknown k none (λ v. settles (length v.members) any) before v sound shows),
  ))

  pub skipped_delivery : (k : ℕ) (p : Packet) → at w.sent k ≡ Some p → (p.target ≡ 0 → ⊥) → AreSeats w → w.members ≡ n → SkipsAt has_applied w.seats p.target (Hears p) → Follows stands is_kept has_applied (Sound n) (HappenedIf Does app (Deliver k)) w w
  skipped_delivery k p is target seats many skips = idle (HappenedIf Does app (Deliver k)) w (λ before v sound shows. (
    any,
    silent (reader (at v.sent k)) _ (skipped_silent k p is target seats many skips before v sound shows),
    sym (skipped k p is target seats many skips (λ v. settles (length v.members) any) before v sound shows),
  ))

  -- and for a stop in one
  pub unknown_stop : (k : ℕ) (kept : Bool) → ((p : Packet) → at w.sent k ≡ Some p → at w.seats p.target ≡ None) → Follows stands is_kept has_applied (Sound n) (HappenedIf Does app (StopInDeliver k kept)) w w
  unknown_stop k true none = idle (HappenedIf Does app (StopInDeliver k true)) w (λ before v sound shows. (
    any,
    silent (reader (at v.sent k)) _ (unknown_silent k none before v sound shows),
    sym (unknown k none (λ v. stops_in (keeps_in None true)) before v sound shows),
  ))
  unknown_stop k false none = idle (HappenedIf Does app (StopInDeliver k false)) w (λ before v sound shows. (
    any,
    silent (reader (at v.sent k)) Nothing refl,
    sym (unknown k none (λ v. stops_in (keeps_in None false)) before v sound shows),
  ))
