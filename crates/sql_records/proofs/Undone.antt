-- What is under way is undone, and the connection is as it was.
use Rattle.std.proofs.Common.{◌≡◌, ◌⊎◌, inl, inr, ℕ, Bool, true, false, List, Result, Ok, Err, IsTrue, refl, sym, subst, ◌∙◌}
use Rattle.std.specs.Prelude.{OnErr}
use Rattle.sqlite.specs.declared.error.Error.{Error}
use Rattle.sqlite.specs.Order.{Row}
use Rattle.sqlite.specs.Held.{Held, state}
use Rattle.sqlite.specs.Store.{Ghosts}
use Rattle.sqlite.specs.Steps.{FailsToCommit}
use Rattle.sqlite.specs.State.{State, ExecutesInside, IsRolledBack, IsUnchanged, KeepsCommit}
use Rattle.record_writes.specs.Holds.{Ended}
use Rattle.record_tables.specs.Texts.{no_schema}
use Rattle.sql_records.specs.Created.{Makes}
use Rattle.sql_records.specs.Opened.{IsAsBefore}

pub keeps_none : (s : State) → KeepsCommit s s
keeps_none s = record { was_open = λ up. up; committed = λ up. refl }

pub keeps_both : (a b c : State) → KeepsCommit a b → KeepsCommit b c → KeepsCommit a c
keeps_both a b c one two = record { was_open = λ up. one.was_open (two.was_open up); committed = λ up. two.committed up ∙ one.committed (two.was_open up) }

module _ (old new : State) where
  keeps_unchanged : IsUnchanged old new → KeepsCommit old new
  keeps_unchanged h = record { was_open = λ up. h.0.was_open; committed = λ up. h.0.committed_is }

  keeps_ended : IsUnchanged old new ⊎ IsRolledBack old new → KeepsCommit old new
  keeps_ended (inl h) = keeps_unchanged h
  keeps_ended (inr h) = record { was_open = h.was_open; committed = λ up. (h.undone up).1 }

  -- a statement in a transaction commits nothing
  keeps_inside : (sql : List ℕ) (params : Row) (r : Result ℕ Error) → ExecutesInside 0 sql params old new r → KeepsCommit old new
  keeps_inside sql params (Ok count) h = record { was_open = λ up. h.1.was_open; committed = λ up. h.1.committed_is }
  keeps_inside sql params (Err e) (inl h) = keeps_ended h.1
  keeps_inside sql params (Err e) (inr h) = keeps_unchanged h.2

  -- it is as it was, where nothing was under way
  pub back_ended : old.in_transaction ≡ false → (IsTrue old.is_open → old.now ≡ old.committed) → Ended old new → IsAsBefore old new
  back_ended mode settled (inl h) = record { was_open = λ up. h.0.was_open; now = λ up. h.0.now_is; committed = λ up. h.0.committed_is; mode = h.0.mode }
  back_ended mode settled (inr h) = record {
    was_open = h.was_open;
    now = λ up. (h.undone up).0 ∙ sym (settled (h.was_open up));
    committed = λ up. (h.undone up).1;
    mode = h.autocommit ∙ sym mode;
  }

  pub back_unchanged : IsUnchanged old new → IsAsBefore old new
  back_unchanged h = record { was_open = λ up. h.0.was_open; now = λ up. h.0.now_is; committed = λ up. h.0.committed_is; mode = h.0.mode }

pub back_none : (s : State) → IsAsBefore s s
back_none s = record { was_open = λ up. up; now = λ up. refl; committed = λ up. refl; mode = refl }

pub back_both : (a b c : State) → IsAsBefore a b → IsAsBefore b c → IsAsBefore a c
back_both a b c one two = record {
  was_open = λ up. one.was_open (two.was_open up);
  now = λ up. two.now up ∙ one.now (two.was_open up);
  committed = λ up. two.committed up ∙ one.committed (two.was_open up);
  mode = two.mode ∙ one.mode;
}

-- whether a transaction is under way or not
pub keeps_by : {S : Type 0} (g : Ghosts S) (h k : Held S) (sql : List ℕ) (params : Row) (r : Result ℕ Error) (mode : Bool) → (state g h).in_transaction ≡ mode
    → (IsTrue (state g h).in_transaction → ExecutesInside 0 sql params (state g h) (state g k) r) → ((state g h).in_transaction ≡ false → k ≡ h) → KeepsCommit (state g h) (state g k)
keeps_by g h k sql params r true is runs ended = keeps_inside (state g h) (state g k) sql params r (runs is)
keeps_by g h k sql params r false is runs ended = subst (λ x. KeepsCommit (state g h) (state g x)) (sym (ended is)) (keeps_none (state g h))

module _ {S : Type 0} (g : Ghosts S) (h b : Held S) (begun : b ≡ record h { in_transaction = true }) (mode : (state g h).in_transaction ≡ false) (settled : IsTrue (state g h).is_open → (state g h).now ≡ (state g h).committed) where
  since : (mid : State) → KeepsCommit (state g b) mid → KeepsCommit (state g h) mid
  since mid kept = let k : KeepsCommit (state g (record h { in_transaction = true })) mid = subst (λ x. KeepsCommit (state g x) mid) begun kept in record { was_open = k.was_open; committed = k.committed }

  -- a transaction was rolled back
  pub back_rolled : (mid end : State) → KeepsCommit (state g b) mid → IsRolledBack mid end → IsAsBefore (state g h) end
  back_rolled mid end kept rolled =
      let k = since mid kept in
      record {
        was_open = λ up. k.was_open (rolled.was_open up);
        now = λ up. (rolled.undone up).0 ∙ k.committed (rolled.was_open up) ∙ sym (settled (k.was_open (rolled.was_open up)));
        committed = λ up. (rolled.undone up).1 ∙ k.committed (rolled.was_open up);
        mode = rolled.autocommit ∙ sym mode;
      }

  -- its commit failed
  pub back_failed : (mid end : State) → KeepsCommit (state g b) mid → mid.in_transaction ≡ true → (e : Error) → FailsToCommit mid end e → IsAsBefore (state g h) end
  back_failed mid end kept is e (inl f) = back_rolled mid end kept f.3
  back_failed mid end kept is e (inr f) = absurd (let both : true ≡ false = sym is ∙ f.1 in cc)

-- nothing happened, and then something ended
pub back_after : (old mid new : State) → IsUnchanged old mid → old.in_transaction ≡ false → (IsTrue old.is_open → old.now ≡ old.committed) → Ended mid new → IsAsBefore old new
back_after old mid new same mode settled ended =
    back_both old mid new (back_unchanged old mid same)
    (back_ended mid new (same.0.mode ∙ mode) (λ up. same.0.now_is ∙ settled same.0.was_open ∙ sym same.0.committed_is) ended)

pub any_err : {T E P : Type 0} (r : Result T E) → P → OnErr r P
any_err (Ok x) p = tt
any_err (Err e) p = p

-- a transaction over a database without tables
pub begins_empty : {S : Type 0} (g : Ghosts S) (h b : Held S) → b ≡ record h { in_transaction = true } → (state g h).now.schema ≡ no_schema → Makes (state g b) no_schema (λ _. Unit {0})
begins_empty g h b begun has = subst (λ x. Makes (state g x) no_schema (λ _. Unit {0})) (sym begun) (record { known = has; rows = tt; mode = refl })
