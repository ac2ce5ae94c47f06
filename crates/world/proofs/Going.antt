-- Events, one after the other.
use Rattle.std.proofs.Common.{◌≡◌, ◌<◌, ℕ, suc, arith, refl, sym, subst, ⊎_elim, List, [], ◌∷◌, ◌++◌, length, take}
use Rattle.ballots.specs.declared.value.Value.{Value}
use Rattle.paxos.specs.Application.{Application}
use Rattle.paxos.specs.Records.{Record}
use Rattle.paxos.specs.World.{Event as Happens}
use Rattle.records.specs.Law.{Fate}
use Rattle.std.specs.Prelude.{Some, slice_get}
use Rattle.world.specs.Reached.{HasHappened, IsUnmoved}
use Rattle.world.specs.Runs.{Ran, RanUntil, StoppedAt}
use Rattle.world.specs.Shown.{World}
use Rattle.world.proofs.Straightly.{take_more}
use Rattle.world.specs.declared.fault.WorldFault.{WorldFault}
use Rattle.world.specs.declared.fault.WorldFault.TheVariants as fault

-- where nothing has changed, nothing that shows has
pub unmoved : {R A : Type 0} (stands : R → Record → Record → Type 0) (is_kept : R → Type 0) (has_applied : List (List ℕ) → List Value → A → Type 0) (w : World R A) → IsUnmoved stands is_kept has_applied w w
unmoved stands is_kept has_applied w = record {
  members = refl;
  names = refl;
  kept = λ k. k;
  changes = λ k a b stand. (a, b, stand, λ now picks. (now, picks, λ v sound shows. (v, refl, shows)));
}

module _ {R A : Type 0} (stands : R → Record → Record → Type 0) (is_kept : R → Type 0) (failed : R → ℕ) (fates : R → ℕ → Fate) (has_applied : List (List ℕ) → List Value → A → Type 0) (app : Application) where
  -- one event more
  pub ran_more : (events : List Happens) (e : Happens) (old mid new : World R A) → Ran stands is_kept failed fates has_applied app events old mid → HasHappened stands is_kept failed fates has_applied app e mid new
      → Ran stands is_kept failed fates has_applied app (events ++ e ∷ []) old new
  ran_more [] e old mid new ran happened = (new, subst (λ w. HasHappened stands is_kept failed fates has_applied app e w new) ran happened, refl)
  ran_more (f ∷ events) e old mid new ran happened = (ran.0, ran.1, ran_more events e ran.0 mid new ran.2 happened)

  -- the event of that index more
  pub ran_on : (events : List Happens) (i : ℕ) (e : Happens) (old mid new : World R A) → slice_get events i ≡ Some e → Ran stands is_kept failed fates has_applied app (take i events) old mid → HasHappened stands is_kept failed fates has_applied app e mid new
      → Ran stands is_kept failed fates has_applied app (take (suc i) events) old new
  ran_on events i e old mid new h ran happened = subst (λ es. Ran stands is_kept failed fates has_applied app es old new) (sym (take_more events i e h)) (ran_more (take i events) e old mid new ran happened)

  -- what happened before, and an event that a fault stops
  pub ran_until : (events : List Happens) (i : ℕ) (e : Happens) (old mid new : World R A) (why : WorldFault) → i < length events → slice_get events i ≡ Some e → Ran stands is_kept failed fates has_applied app (take i events) old mid
      → StoppedAt stands is_kept failed fates has_applied app e i mid new why → RanUntil stands is_kept failed fates has_applied app events old new why
  ran_until events i e old mid new (fault.Memory done) l h ran s = ⊎_elim
      (λ (o : (done ≡ i) × IsUnmoved stands is_kept has_applied mid new). (omega (arith, o.0, l), mid, subst (λ k. Ran stands is_kept failed fates has_applied app (take k events) old mid) (sym o.0) ran, o.1))
      (λ (o : (done ≡ suc i) × HasHappened stands is_kept failed fates has_applied app e mid new). (
        omega (arith, o.0, l),
        new,
        subst (λ k. Ran stands is_kept failed fates has_applied app (take k events) old new) (sym o.0) (ran_on events i e old mid new h ran o.1),
        unmoved stands is_kept has_applied new,
      ))
      s
  ran_until events i e old mid new fault.Member l h ran s = absurd s
  ran_until events i e old mid new fault.Store l h ran s = (suc i, omega (arith, l), ran_on events i e old mid new h ran s.0, s.1)
