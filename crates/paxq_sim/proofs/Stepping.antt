-- An event that happened over stores that fail as a file says is the simulation's next.
use Rattle.std.proofs.Common.{◌≡◌, ℕ, suc, ◌+◌, arith, refl, sym, subst, ap, ◌∙◌, Bool, true, false, List, Option, Some, None, ⊎_elim, length}
use Rattle.std.specs.Prelude.{◌==◌, if◌then◌else◌}
use Rattle.std.proofs.lemmas.Bool.{cases_eq}
use Rattle.std.proofs.lemmas.Option.{none-some}
use Rattle.records.specs.Script.{Script, fates_of}
use Rattle.event_files.specs.declared.first.Failure.{Failure}
use Rattle.paxos.specs.Application.{Application}
use Rattle.paxos.specs.Knowledge.{news, prefix}
use Rattle.paxos.specs.Records.{Write, Nothing, writes}
use Rattle.paxos.specs.World.{World as Whole, Event, happens}
use Rattle.paxos.proofs.WellFormed.{happens_sound}
use Rattle.paxos.specs.Sound.{Sound}
use Rattle.paxos.specs.Smooth.{AllApplied}
use Rattle.world.specs.Reached.{HappenedOver, actor, store_at, write_in}
use Rattle.world.specs.Seats.{fates_of as fates_in, later}
use Rattle.world.specs.Shown.{World}
use Rattle.world.proofs.Lifting.{eq_other, eq_self}
use Rattle.paxq_sim.specs.Going.{IsKnown}
use Rattle.paxq_sim.specs.Play.{State, all_applied, choice_in, fate, next}
use Rattle.paxq_sim.proofs.Settling.{same_event, settled}

-- The event leads from a world with its stores to the next, and what code holds has those stores.
pub record Leads {A : Type 0} (app : Application) (failures : List Failure) (n : ℕ) (s : State) (e : Event) (w : World Script A) (z : Whole) : Type 0 where
  pub world_is : (next app failures s e).world ≡ z
  pub known : IsKnown failures w (next app failures s e).written
  pub sound : Sound n z

-- one write more
one_later : (w : Write) (j k : ℕ) → j + later w k ≡ later w j + k
one_later w j k = by (writes w)
  where
    by : (b : Bool) → j + (if b then suc k else k) ≡ (if b then suc j else j) + k
    by true = omega arith
    by false = refl

module _ {A : Type 0} (app : Application) (failures : List Failure) (n : ℕ) (s : State) (e : Event) (old new : World Script A) (sound : Sound n s.world) (known : IsKnown failures old s.written) (z : Whole)
    (h : HappenedOver (λ (r : Script). r.failures) fates_of old.seats new.seats app e s.world z) where
  abbrev m : ℕ
  m = actor s.world e

  abbrev write : Write
  write = write_in app s.world e

  -- it fails as the file says
  fails_so : h.0.fails ≡ (choice_in app failures s e).fails
  fails_so = h.1.own.known (fate failures m (s.written m)) (λ r q. known m r q 0 ∙ ap (λ k. Some (fate failures m k)) (omega arith))

  sound_then : Sound n z
  sound_then = subst (Sound n) (sym h.2) (happens_sound n app s.world h.0 e sound)

  world_so : AllApplied z → (next app failures s e).world ≡ z
  world_so applied =
      let size : length z.members ≡ length s.world.members = sound_then.size ∙ sym sound.size in
      same_event app s.world (choice_in app failures s e).fails 0 h.0.applied e
      ∙ ap (λ f. all_applied (length s.world.members) (happens app s.world (record { fails = f; applied = h.0.applied }) e)) (sym fails_so)
      ∙ ap (all_applied (length s.world.members)) (sym h.2)
      ∙ settled (length s.world.members) z (λ j x u q r. applied j x u q r ∙ ap (λ k. prefix k (news u.heard)) size)

  -- what is known of a store, after what it did
  known_at : (j : ℕ) (w : Write) (r : Script) → store_at new.seats j ≡ Some r → ((k : ℕ) → fates_in fates_of (store_at new.seats j) k ≡ fates_in fates_of (store_at old.seats j) (later w k))
      → (k : ℕ) → fates_of r k ≡ Some (fate failures j (later w (s.written j) + k))
  known_at j w r q rest k = by (store_at old.seats j) refl
    where
      now : fates_of r k ≡ fates_in fates_of (store_at old.seats j) (later w k)
      now = ap (λ o. fates_in fates_of o k) (sym q) ∙ rest k

      by : (o : Option Script) → store_at old.seats j ≡ o → fates_of r k ≡ Some (fate failures j (later w (s.written j) + k))
      by None p = absurd (none-some _ (sym (now ∙ ap (λ o. fates_in fates_of o (later w k)) p)))
      by (Some r0) p = now ∙ ap (λ o. fates_in fates_of o (later w k)) p ∙ known j r0 p (later w k) ∙ ap (λ i. Some (fate failures j i)) (one_later w (s.written j) k)

  -- so of each
  known_so : IsKnown failures new (next app failures s e).written
  known_so j r q = ⊎_elim
      (λ (p : j ≡ m).
      let own : (k : ℕ) → fates_of r k ≡ Some (fate failures j (later write (s.written j) + k)) = known_at j write r q (subst (λ i. (k : ℕ) → fates_in fates_of (store_at new.seats i) k ≡ fates_in fates_of (store_at old.seats i) (later write k)) (sym p) h.1.own.rest) in
      subst (λ b. (k : ℕ) → fates_of r k ≡ Some (fate failures j ((if b then later write (s.written j) else s.written j) + k))) (sym (subst (λ i. (i == m) ≡ true) (sym p) (eq_self m))) own)
      (λ (d : j ≡ m → ⊥).
      subst (λ b. (k : ℕ) → fates_of r k ≡ Some (fate failures j ((if b then later write (s.written j) else s.written j) + k))) (sym (eq_other j m d)) (known_at j Nothing r q (λ k. h.1.others j d k)))
      (cases_eq j m)

  pub leads : AllApplied z → Leads app failures n s e new z
  leads applied = record { world_is = world_so applied; known = known_so; sound = sound_then }
