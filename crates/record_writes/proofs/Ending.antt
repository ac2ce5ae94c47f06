-- Why a transaction fails.
use Rattle.std.proofs.Common.{◌≡◌, ◌≢◌, inl, inr, true, Ok, Err, Result, refl, subst, ◌∙◌, arith}
use Rattle.std.specs.Prelude.{IfErr}
use Rattle.std.proofs.Math.Nat.{le_trans}
use Rattle.sqlite.specs.Held.{Held, state}
use Rattle.sqlite.specs.State.{State, HasCleanDisk, Survives}
use Rattle.sqlite.specs.Steps.{FailsToCommit}
use Rattle.sqlite.specs.Store.{Ghosts}
use Rattle.sqlite.specs.Tree.{Trees}
use Rattle.sqlite.specs.declared.error.ErrorCode.TheVariants as code
use Rattle.sqlite.specs.declared.error.Error.{Error}
use Rattle.sqlite.specs.declared.error.Error.TheVariants.{SqliteFailure}
use Rattle.sqlite.proofs.Callers.{survives_begin}
use Rattle.record_writes.specs.Faults.{StoreFailed}
use Rattle.record_writes.proofs.Failing.{commit_failed, more_since, still_more}

module _ {S : Type 0} (g : Ghosts S) (h b : Held S) (begun : b ≡ record h { in_transaction = true }) where
  pub failed_begun : (end : State) → StoreFailed (state g b) end → StoreFailed (state g h) end
  failed_begun end f = subst (λ x. StoreFailed (state g x) end) begun f

  pub err_begun : {V : Type 0} (end : State) (r : Result V Error) → IfErr r (λ e. e ≢ SqliteFailure code.OutOfMemory → StoreFailed (state g b) end) → IfErr r (λ e. e ≢ SqliteFailure code.OutOfMemory → StoreFailed (state g h) end)
  err_begun end (Ok v) f = tt
  err_begun end (Err e) f = λ other. failed_begun end (f other)

  pub survived_begun : (end : State) (P : Trees → Type 0) → Survives (state g b) end P → Survives (state g h) end P
  survived_begun end P s = survives_begin g h end P (subst (λ x. Survives (state g x) end P) begun s)

-- two calls in a row
pub survives_then : (a b c : State) (P Q R : Trees → Type 0) → ((db : Trees) → P db → R db) → ((db : Trees) → Q db → R db) → Survives a b P → Survives b c Q → Survives a c R
survives_then a b c P Q R first next p q = record {
  clean = le_trans p.clean q.clean;
  shield = λ s. q.shield (p.shield s);
  counts = le_trans p.counts q.counts;
  limit = q.limit ∙ p.limit;
  closes = λ clean up. elim (p.closes (was clean) up) [
    | inl still ↦ elim (q.closes clean still) [ inl end ↦ inl end | inr more ↦ inr (more_since a.faults b.faults c.faults p.counts more) ]
    | inr more ↦ inr (still_more a.faults b.faults c.faults more q.counts)
  ];
  crash = λ clean db left. elim (q.crash clean db left) [
    | inl left ↦ elim (p.crash (was clean) db left) [ inl old ↦ inl old | inr made ↦ inr (first db made) ]
    | inr made ↦ inr (next db made)
  ];
}
  where
    was : HasCleanDisk c → HasCleanDisk b
    was clean = let low = q.clean in omega (arith, low, clean)

pub survives_any : (a b c : State) (P Q : Trees → Type 0) → Survives a b P → Survives b c Q → Survives a c (λ _. Unit {0})
survives_any a b c P Q p q = survives_then a b c P Q (λ _. Unit {0}) (λ db made. tt) (λ db made. tt) p q

-- two calls that commit nothing
pub survives_both : (a b c : State) → Survives a b (λ _. ⊥) → Survives b c (λ _. ⊥) → Survives a c (λ _. ⊥)
survives_both a b c p q = survives_then a b c (λ _. ⊥) (λ _. ⊥) (λ _. ⊥) (λ db none. none) (λ db none. none) p q

-- no call
pub survives_none : (s : State) → Survives s s (λ _. ⊥)
survives_none s = record { clean = omega arith; shield = λ s. s; counts = omega arith; limit = refl; closes = λ clean up. inl up; crash = λ clean db left. inl left }

-- the commit
pub commit_fails : {V : Type 0} (old new : State) → old.in_transaction ≡ true → (r : Result V Error) → IfErr r (FailsToCommit old new) → IfErr r (λ e. e ≢ SqliteFailure code.OutOfMemory → StoreFailed old new)
commit_fails old new mode (Ok v) h = tt
commit_fails old new mode (Err e) h = commit_failed old new mode e h
