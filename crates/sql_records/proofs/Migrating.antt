-- A transaction that makes version 2 of a record of version 1.
use Rattle.std.proofs.Common.{◌≡◌, inl, inr, true, false, refl, sym, subst, ⊎_elim}
use Rattle.sqlite.specs.Store.{Ghosts}
use Rattle.sqlite.specs.Held.{Held, state}
use Rattle.sqlite.specs.Tree.{Trees}
use Rattle.sqlite.specs.State.{State, HasCleanDisk, Survives, Shows}
use Rattle.sqlite.proofs.Callers.{survives_begin}
use Rattle.ballots.specs.Terms.{Setup}
use Rattle.paxos.specs.Records.{Record}
use Rattle.record_tables.specs.Texts.{schema, schema_1}
use Rattle.record_tables.specs.declared.version.Version.TheVariants.{First, Second}
use Rattle.sql_records.specs.Created.{HaveRows, Makes, MigratesOnly}
use Rattle.record_writes.specs.Faults.{StoreFailed}
use Rattle.record_writes.specs.Holds.{Holds}
use Rattle.record_writes.specs.Stored.{IsStored}
use Rattle.record_writes.proofs.Both.{committed}
use Rattle.record_writes.proofs.Holding.{SettledAt}

module _ {S : Type 0} (g : Ghosts S) (h b : Held S) (begun : b ≡ record h { in_transaction = true }) where
  pub begins : (state g h).now.schema ≡ schema_1 → Makes (state g b) schema_1 (HaveRows ((state g h).now.trees 0) ((state g h).now.trees 1))
  begins has = subst (λ x. Makes (state g x) schema_1 (HaveRows ((state g h).now.trees 0) ((state g h).now.trees 1))) (sym begun) (record { known = has; rows = (refl, refl); mode = refl })

  pub survived : (mid : State) (P : Trees → Type 0) → Survives (state g b) mid P → Survives (state g h) mid P
  survived mid P s = survives_begin g h mid P (subst (λ x. Survives (state g x) mid P) begun s)

  pub failed_since : (mid : State) → StoreFailed (state g b) mid → StoreFailed (state g h) mid
  failed_since mid f = subst (λ x. StoreFailed (state g x) mid) begun f

module _ (old mid end : State) (o : Setup) where
  pub made_now : (k : Record) → Makes mid schema (λ t. IsStored Second o t k) → Shows mid end mid.now mid.now false → SettledAt end → Holds end o k k
  made_now k m w settled = committed mid end o k k (record { is_open = w.was_open; known = m.known; stored = m.rows; mode = m.mode }) w settled

  pub migrates : old.now.schema ≡ schema_1 → HasCleanDisk mid → Survives old mid (λ _. ⊥) → Survives mid end (λ db. db ≡ mid.now.trees) → ((k : Record) → IsStored First o old.now.trees k → Makes mid schema (λ t. IsStored Second o t k)) → MigratesOnly o old end
  migrates has mid_clean first second made clean db left = elim (second.crash clean db left) [
    | inl was ↦ inl (⊎_elim (λ a. a) (λ none. absurd none) (first.crash mid_clean db was))
    | inr is ↦ inr (has, λ k it. subst (λ t. IsStored Second o t k) (sym is) (made k it).rows)
  ]
