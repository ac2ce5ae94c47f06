-- Why the calls of a write fail.
use Rattle.std.proofs.Common.{◌≡◌, ◌≢◌, inl, inr, ℕ, List, [], ◌∷◌, length, Bool, true, false, IsTrue, Ok, Err, Result, refl, subst, arith}
use Rattle.std.specs.Prelude.{IfErr}
use Rattle.sqlite_tied.specs.Compute.{everything}
use Rattle.sqlite.specs.declared.error.ErrorCode.TheVariants as code
use Rattle.sqlite.specs.declared.error.Error.{Error}
use Rattle.sqlite.specs.declared.error.Error.TheVariants.{SqliteFailure}
use Rattle.sqlite.specs.declared.types.Value.TheVariants.{Null}
use Rattle.sqlite.specs.Listing.{understood}
use Rattle.sqlite.specs.Order.{Row}
use Rattle.sqlite.specs.Tree.{Trees}
use Rattle.sqlite.specs.State.{State, Executes, IsNotRun, Survives}
use Rattle.ballots.specs.Terms.{Setup}
use Rattle.paxos.specs.Records.{Record}
use Rattle.record_tables.specs.Texts.{schema, keep_text, promise_text}
use Rattle.record_writes.specs.Faults.{IsWriteText, StoreFailed}
use Rattle.record_writes.specs.Holds.{Holds}
use Rattle.record_writes.proofs.Failing.{IsWhole, not_run}
use Rattle.record_writes.proofs.Holding.{after_err, schema_is}
use Rattle.record_writes.proofs.Means.{keep_plain, promise_plain}
use Rattle.record_writes.proofs.UpdateFaults.{promise_whole}

pub keep_whole : IsWhole (length keep_text) 2 (understood schema keep_text)
unfolding understood everything
keep_whole = (omega arith, refl)

module _ (old new : State) where
  -- one of the texts is not read
  not_read : (sql : List ℕ) (e : Error) → IsWriteText sql → old.now.schema ≡ schema → ((params : Row) → IsNotRun old new sql params e) → e ≢ SqliteFailure code.OutOfMemory → StoreFailed old new
  not_read sql e (inl is) has h other = not_run old new promise_text (Null ∷ Null ∷ []) schema has promise_plain promise_whole e (subst (λ t. IsNotRun old new t (Null ∷ Null ∷ []) e) is (h (Null ∷ Null ∷ []))) other
  not_read sql e (inr is) has h other = not_run old new keep_text (Null ∷ Null ∷ []) schema has keep_plain keep_whole e (subst (λ t. IsNotRun old new t (Null ∷ Null ∷ []) e) is (h (Null ∷ Null ∷ []))) other

  pub look_failed : {X : Type 0} (sql : List ℕ) → IsWriteText sql → (IsTrue old.is_open → old.now.schema ≡ schema) → (r : Result X Error) → IfErr r (λ e. (params : Row) → IsNotRun old new sql params e) → IfErr r (λ e. e ≢ SqliteFailure code.OutOfMemory → StoreFailed old new)
  look_failed sql ours known (Ok x) h = tt
  look_failed sql ours known (Err e) h = by old.is_open refl
    where
      by : (b : Bool) → old.is_open ≡ b → e ≢ SqliteFailure code.OutOfMemory → StoreFailed old new
      by false shut other = inr (inl shut)
      by true up other = not_read sql e ours (known up) h other

  -- whatever it may have committed
  pub any_left : (P : Trees → Type 0) → Survives old new P → Survives old new (λ _. Unit {0})
  any_left P s = record { clean = s.clean; shield = s.shield; counts = s.counts; limit = s.limit; closes = s.closes; crash = λ clean db left. inr tt }

  -- a statement that failed left the tables
  pub err_known : (o : Setup) (k : Record) → Holds old o k k → (sql : List ℕ) (params : Row) (r : Result ℕ Error) → Executes sql params old new r → IfErr r (λ e. IsTrue new.is_open → new.now.schema ≡ schema)
  err_known o k h sql params (Ok n) ran = tt
  err_known o k h sql params (Err e) ran = schema_is old new o k k h (after_err old new sql params e ran)
