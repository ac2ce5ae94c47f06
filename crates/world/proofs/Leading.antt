-- Lists of events, led by one after the other.
use Rattle.std.proofs.Common.{◌≡◌, ◌≤◌, ℕ, Bool, Option, refl, sym, subst, ◌∙◌, List, [], ◌∷◌, ◌++◌, append-nil, length}
use Rattle.std.proofs.lemmas.List.{append_assoc}
use Rattle.ballots.specs.Ballot.{most_members}
use Rattle.ballots.specs.declared.value.Value.{Value}
use Rattle.paxos.specs.Application.{Application}
use Rattle.paxos.specs.Records.{Record, Write}
use Rattle.paxos.specs.World.{World as Whole, Event as Happens}
use Rattle.paxos.specs.Sound.{Sound}
use Rattle.world.specs.Reached.{Follows, Happened, HappenedIf, Reached, ReachedSmoothly, Stays}
use Rattle.world.specs.Runs.{AllRun, AreUpToDate, LeadsTo, LeadsSmoothly}
use Rattle.world.specs.Shown.{World, AreSeats}
use Rattle.world.proofs.Happening.{happened}
use Rattle.world.proofs.Lifting.{so}
use Rattle.world.proofs.Reaching.{reaches, reaches_smoothly, reaches_still}

-- an event has happened in any case
pub in_any_case : {R A : Type 0} (stands : R → Record → Record → Type 0) (is_kept : R → Type 0) (has_applied : List (List ℕ) → List Value → A → Type 0) (MayBe : Whole → Type 0) (Does : ℕ → Write → Option Bool → Type 0) (app : Application) (e : Happens) (old new : World R A)
    → Follows stands is_kept has_applied MayBe (HappenedIf Does app e) old new → Follows stands is_kept has_applied MayBe (Happened app e) old new
in_any_case stands is_kept has_applied MayBe Does app e old new f = so (HappenedIf Does app e) (Happened app e) old new (λ v z sound h. happened Does app e v z h) f

module _ {R A : Type 0} (stands : R → Record → Record → Type 0) (is_kept : R → Type 0) (has_applied : List (List ℕ) → List Value → A → Type 0) (app : Application) where
  -- no event
  pub leads_none : (w : World R A) → LeadsTo stands is_kept has_applied app w w []
  leads_none w = record { members = refl; names = refl; kept = λ k. k; reached = λ k before r. subst (Reached stands has_applied app w) (sym (append-nil before)) r }

  pub smoothly_none : (w : World R A) → LeadsSmoothly stands is_kept has_applied app w w []
  smoothly_none w = record { leads = leads_none w; reached = λ k before r. subst (ReachedSmoothly stands has_applied app w) (sym (append-nil before)) r }

  module _ (old new : World R A) (few : old.members ≤ most_members) where
    -- nothing happened
    pub leads_still : Follows stands is_kept has_applied (Sound old.members) Stays old new → LeadsTo stands is_kept has_applied app old new []
    leads_still f = record {
      members = f.members;
      names = f.names;
      kept = f.kept;
      reached = λ k before r. subst (Reached stands has_applied app new) (sym (append-nil before)) (reaches_still stands is_kept has_applied old new k app few before f r);
    }

    -- one event
    pub leads_one : (Does : ℕ → Write → Option Bool → Type 0) (e : Happens) → Follows stands is_kept has_applied (Sound old.members) (HappenedIf Does app e) old new → LeadsTo stands is_kept has_applied app old new (e ∷ [])
    leads_one Does e f = record {
      members = f.members;
      names = f.names;
      kept = f.kept;
      reached = λ k before r. reaches stands is_kept has_applied old new k app few before e (in_any_case stands is_kept has_applied (Sound old.members) Does app e old new f) r;
    }

    pub smoothly_one : (Does : ℕ → Write → Option Bool → Type 0) (e : Happens) → length new.seats ≡ new.members → AreSeats new → AllRun new → AreUpToDate has_applied new
        → Follows stands is_kept has_applied (Sound old.members) (HappenedIf Does app e) old new → LeadsSmoothly stands is_kept has_applied app old new (e ∷ [])
    smoothly_one Does e size seats run gone f = record {
      leads = leads_one Does e f;
      reached = λ k before r. reaches_smoothly stands is_kept has_applied old new k app few before size seats e run gone (in_any_case stands is_kept has_applied (Sound old.members) Does app e old new f) r;
    }

  module _ (old mid new : World R A) (first second : List Happens) where
    -- some events, and then others
    pub leads_join : LeadsTo stands is_kept has_applied app old mid first → LeadsTo stands is_kept has_applied app mid new second → LeadsTo stands is_kept has_applied app old new (first ++ second)
    leads_join a b = record {
      members = b.members ∙ a.members;
      names = b.names ∙ a.names;
      kept = λ k. a.kept (b.kept k);
      reached = λ k before r.
          subst (Reached stands has_applied app new) (append_assoc before first second) (b.reached k (before ++ first) (a.reached (b.kept k) before r));
    }

    pub smoothly_join : LeadsSmoothly stands is_kept has_applied app old mid first → LeadsSmoothly stands is_kept has_applied app mid new second → LeadsSmoothly stands is_kept has_applied app old new (first ++ second)
    smoothly_join a b = record {
      leads = leads_join a.leads b.leads;
      reached = λ k before r.
          subst (ReachedSmoothly stands has_applied app new) (append_assoc before first second) (b.reached k (before ++ first) (a.reached (b.leads.kept k) before r));
    }
