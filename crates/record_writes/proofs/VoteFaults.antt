-- Why the upsert of a vote fails.
use Rattle.std.proofs.Common.{◌≡◌, ◌≢◌, inl, inr, ℕ, ℤ, ◌+◌, ◌≤◌, pos, List, [], ◌∷◌, ◌++◌, map, length, Bool, true, false, cond, ◌||◌, ◌==◌, Option, None, Some, Err, Result, IsSome, refl, sym, ap, subst, ◌∙◌, arith}
use Rattle.std.specs.Prelude.{IfErr}
use Rattle.std.specs.Float.{NotNan}
use Rattle.std.proofs.lemmas.Bool.{both_ways}
use Rattle.std.proofs.lemmas.Nat.Bits.{bit_at-zero}
use Rattle.sqlite_value.specs.Order.{number, value_cmp}
use Rattle.sqlite_trees.specs.Tree.{rowid, without_rowid}
use Rattle.sqlite_trees.specs.View.{IsStorableRow}
use Rattle.sqlite_sql.specs.Ops.{binary}
use Rattle.sqlite_schema.specs.declared.command.Conflict.TheVariants.{Abort}
use Rattle.sqlite_schema.specs.declared.schema.Constraint.TheVariants.{Datatype, NotNull, Check, PrimaryKey, Unique, ForeignKey}
use Rattle.sqlite_schema.specs.declared.schema.Keys.TheVariants.{Enforced}
use Rattle.sqlite_schema.specs.Rules.{table_reals}
use Rattle.sqlite_rules.specs.declared.error.Refusal.{Refusal}
use Rattle.sqlite_rules.specs.declared.error.Refusal.TheVariants.{Violates, Mismatch, NoRowid, BadReference, TooDeep}
use Rattle.sqlite_rules.specs.Action.{Writes}
use Rattle.sqlite_rules.specs.Calls.{ids_of}
use Rattle.sqlite_rules.specs.Edit.{IsOversized, IsRefused, is_taken, with_rowid, without_all}
use Rattle.sqlite_rules.specs.Keys.{AreConflicts}
use Rattle.sqlite_rules.specs.Lists.{Has}
use Rattle.sqlite_rules.specs.Steps.{IsJudged}
use Rattle.sqlite_tied.specs.Compute.{everything}
use Rattle.sqlite.specs.declared.error.ErrorCode.TheVariants as code
use Rattle.sqlite.specs.declared.error.Error.{Error}
use Rattle.sqlite.specs.declared.error.Error.TheVariants.{SqliteFailure}
use Rattle.sqlite.specs.declared.types.Value.TheVariants.{Null, Int}
use Rattle.sqlite.specs.Does.{Does}
use Rattle.sqlite.specs.Edit.{Edit, edit_of, edited}
use Rattle.sqlite.specs.Effect.{RefusesQuery}
use Rattle.sqlite.specs.Listing.{understood}
use Rattle.sqlite.specs.Order.{Row}
use Rattle.sqlite.specs.Rowids.TheVariants.{Given}
use Rattle.sqlite.specs.Rows.{Clears, Judged, Meets, Puts, Queried, Sourced, Tries, TriesEach, Updates, Upserts, count_of, nothing, rowids_for, shown}
use Rattle.sqlite.specs.Source.TheVariants.{Values}
use Rattle.sqlite.specs.Term.{Term, lit, col}
use Rattle.sqlite.specs.Tree.{Trees}
use Rattle.sqlite.specs.State.{State, ExecutesInside}
use Rattle.sqlite.proofs.Callers.{statement_of}
use Rattle.ballots.specs.Spelling.{IsValue}
use Rattle.ballots.specs.Values.{positions}
use Rattle.ballots.specs.declared.value.Vote.{Vote}
use Rattle.ballots.specs.declared.value.Entry.{Entry}
use Rattle.record_tables.specs.Texts.{schema, vote_text, votes}
use Rattle.record_writes.specs.Faults.{StoreFailed}
use Rattle.record_writes.specs.Stored.{times, vote_row}
use Rattle.record_writes.proofs.Failing.{IsWhole, each_at, edit_made, halted, inside_failed, no_keys, our_mode}
use Rattle.record_writes.proofs.KeepFaults.{fits, value_short}
use Rattle.record_writes.proofs.Means.{upsert_query, vote_command, vote_is, vote_plain}
use Rattle.record_writes.proofs.Update.{cast_int, cast_null}
use Rattle.record_writes.proofs.Upsert.{entry, id_test, leaves, none_at, none_without, without}
use Rattle.record_writes.proofs.Upserted.{answers, casts, changed, clause, meets, nothing_there, params, task}

abbrev vote_terms : List Term
vote_terms = col 0 0 ∷ lit Null ∷ col 0 1 ∷ col 0 2 ∷ col 0 3 ∷ []

vote_whole : IsWhole (length vote_text) 4 (understood schema vote_text)
unfolding understood everything
vote_whole = (omega arith, refl)

-- no row has the rowid of a position where there is no vote
free : (p : ℕ) (v : Vote) (es : List Entry) → times p es ≡ 0 → is_taken (map vote_row es) (vote_row (entry p v)) ≡ false
free p v [] none = refl
free p v (e ∷ es) none = rw (id_test e.position p) (by (free p v es) (e.position == p) none)
  where
    by : (times p es ≡ 0 → is_taken (map vote_row es) (vote_row (entry p v)) ≡ false) → (b : Bool) → cond b 1 0 + times p es ≡ 0 → (b || is_taken (map vote_row es) (vote_row (entry p v))) ≡ false
    by rest true k = absurd (omega (arith, k))
    by rest false k = rest (omega (arith, k))

-- what the query of the update is given
abbrev given : ℕ → Vote → Row
given p v = params p v ++ Int (pos p) ∷ shown votes (vote_row (entry p v))

query_limited : (limit : Option ℕ) (db : Trees) (p : ℕ) (v : Vote) (e : Error) → RefusesQuery limit (record { schema = schema; trees = db }) (record { lets = []; body = upsert_query }) (given p v) e → IsSome limit
query_limited limit db p v e (inl h) = absurd (both_ways _ h.1 refl)
query_limited limit db p v e (inr (inl (is, inl h))) = absurd h
query_limited limit db p v e (inr (inl (is, inr h))) = absurd h.4
query_limited limit db p v e (inr (inr h)) = h.1

or_true : (b : Bool) → (b || true) ≡ true
or_true true = refl
or_true false = refl

-- ---- the row can be stored, and no rule refuses it

module _ (p : ℕ) (v : Vote) (good : IsValue v.value) (most : p ≤ positions) where
  abbrev row : Row
  row = vote_row (entry p v)

  storable : IsStorableRow (table_reals votes) row
  unfolding lib.Ieee.is_nan
  storable = (
    record {
      typed = λ c is. absurd (let none = bit_at-zero c in omega arith);
      columns = (omega arith, omega arith);
      numbers = each_at (λ v. NotNan (number v)) row (tt, (tt, (tt, (tt, (tt, tt)))));
      short = let short = value_short v.value good in omega (arith, short);
    },
    omega arith,
  )

  fits_table : (r : Row) → Has (row ∷ []) r → ¬ IsOversized schema votes r
  fits_table r (inl same) (inl big) = big (subst (IsStorableRow (table_reals votes)) (sym same) storable)
  fits_table r (inr other) (inl big) = absurd other
  fits_table r has (inr index) = index.1

  not_judged : (why : Refusal) → ¬ IsJudged votes row (Some why)
  not_judged (Violates Datatype) h = both_ways _ h refl
  not_judged (Violates NotNull) h = both_ways _ h refl
  not_judged (Violates Check) h = both_ways _ h refl
  not_judged (Violates PrimaryKey) h = h
  not_judged (Violates Unique) h = h
  not_judged (Violates ForeignKey) h = h
  not_judged Mismatch h = both_ways _ h refl
  not_judged NoRowid h = h
  not_judged BadReference h = h
  not_judged TooDeep h = h

  module _ (db : Trees) (gone : List ℤ) (es : List Entry) (left : without_all (db 1) gone ≡ map vote_row es) (none : times p es ≡ 0) where
    abbrev edit : Edit
    edit = record { table = votes; gone = gone; news = row ∷ [] }

    not_refused : (why : Refusal) → ¬ IsRefused schema Enforced db edit why
    unfolding binary value_cmp lib.Ieee.is_nan lib.Ieee.lt
    not_refused (Violates Datatype) h = both_ways _ h refl
    not_refused (Violates NotNull) h = both_ways _ h refl
    not_refused (Violates Check) h = both_ways _ h refl
    not_refused (Violates PrimaryKey) h = both_ways _ h (rw (left, free p v es none) refl)
    not_refused (Violates Unique) h = h (no_keys (db 0), (no_keys (edited db edit), (no_keys (db 2), tt)))
    not_refused (Violates ForeignKey) h = h
    not_refused Mismatch h = both_ways _ h refl
    not_refused NoRowid h = both_ways _ h (rw (fits p most) refl)
    not_refused BadReference h = both_ways _ h (or_true _)
    not_refused TooDeep h = h

    not_edited : (why : Option Refusal) → ¬ Writes schema Enforced db edit (Err why)
    not_edited why h = edit_made schema Enforced db edit refl not_refused fits_table why h

  -- ---- it is put in, or put in the place of the one that is there

  module _ (limit : Option ℕ) (db : Trees) (es : List Entry) (once : times p es ≤ 1) (is : db 1 ≡ map vote_row es) where
    is_put : edit_of db votes [] Given 0 (row ∷ []) ≡ record { table = votes; gone = []; news = row ∷ [] }
    is_put = rw (cast_int p, cast_null, cast_int v.ballot.round, cast_int v.ballot.member) refl

    is_changed : edit_of db votes (ids_of (changed p v es once ∷ [])) Given 1 (changed p v es once ∷ []) ≡ record { table = votes; gone = pos p ∷ []; news = row ∷ [] }
    is_changed = rw (cast_int p, cast_null, cast_int v.ballot.round, cast_int v.ballot.member) refl

    not_put : times p es ≡ 0 → (stop : Option Error) → ¬ Puts (task p v limit Enforced db) row db (Err stop)
    not_put none stop h = elim (halted h) [
      | inl edits ↦ not_edited db [] es is none edits.0 (subst (λ it. Writes schema Enforced db it (Err edits.0)) is_put edits.1)
      | inr gives ↦ absurd (let e = gives.2 in cc)
    ]

    not_cleared : times p es ≡ 0 → (found : List Row) (stop : Option Error) → ¬ Clears (task p v limit Enforced db) Abort row db found (Err stop)
    not_cleared none [] stop h = not_put none stop h
    not_cleared none (x ∷ more) stop h = not_put none stop h

    by_limit : (stop : Option Error) → Queried limit (record { schema = schema; trees = db }) (record { lets = []; body = upsert_query }) (given p v) (Err stop) → IsSome limit
    by_limit None h = absurd h
    by_limit (Some e) h = query_limited limit db p v e h

    left : without_rowid (pos p) (db 1) ≡ map vote_row (without p es)
    left = ap (without_rowid (pos p)) is ∙ leaves p es

    replaced : (e : Entry) → Has es e → e.position ≡ p → (stop : Option Error)
        → Updates (task p v limit Enforced db) (record { lets = []; body = upsert_query }) (given p v) db (Err stop) → IsSome limit
    replaced e has same stop h = elim (halted h) [
      | inl queried ↦ by_limit stop queried
      | inr read ↦ elim (halted read.2) [
        | inl edits ↦
            let rows : read.0 ≡ changed p v es once ∷ [] = answers p v es once db e read.0 is has same (read.1.answer Null) in
            absurd (not_edited db (pos p ∷ []) (without p es) left (none_without p es) edits.0 (subst (λ it. Writes schema Enforced db it (Err edits.0)) (ap (λ rs. edit_of db votes (ids_of rs) Given 1 rs) rows ∙ is_changed) edits.1))
        | inr wrote ↦ absurd (let e = wrote.2 in cc)
      ]
    ]

    met : (found : List Row) (stop : Option Error) → AreConflicts (Some (0 ∷ [])) [] votes (db 1) row found
        → Meets (task p v limit Enforced db) (Upserts (task p v limit Enforced db) Abort row db []) row db (clause p v limit Enforced db) found (Err stop) → IsSome limit
    met [] stop found h = absurd (not_cleared (none_at p es (nothing_there p v es once limit Enforced db is found)) h.0 stop h.2)
    met (there ∷ more) stop found h =
        let it = meets p v es once db there more is found in
        replaced it.0 it.1 it.2 stop (subst (λ t. Updates (task p v limit Enforced db) (record { lets = []; body = upsert_query }) (params p v ++ rowid t ∷ shown votes row) db (Err stop)) it.3 h)

    tries : (stop : Option Error) → Tries (task p v limit Enforced db) Abort (clause p v limit Enforced db ∷ []) row db (Err stop) → IsSome limit
    tries stop (inl refused) = absurd (both_ways _ refused.0 (fits p most))
    tries stop (inr h) = by h.0 h.1 h.2
      where
        by : (verdict : Option Refusal) → IsJudged votes row verdict → Judged (task p v limit Enforced db) Abort (clause p v limit Enforced db ∷ []) row db verdict (Err stop) → IsSome limit
        by None judged h = met h.0 stop h.1 h.2
        by (Some why) judged h = absurd (not_judged why judged)

    each : (top : ℤ) (stop : Option Error) → TriesEach (task p v limit Enforced db) Abort (clause p v limit Enforced db ∷ []) (row ∷ []) top (nothing db) (Err stop) → IsSome limit
    each top stop h = elim (halted h) [
      | inl tried ↦ tries stop (subst (λ r. Tries (task p v limit Enforced db) Abort (clause p v limit Enforced db ∷ []) (with_rowid (rowids_for votes top) (db 1) r) db (Err stop)) (casts p v) tried)
      | inr one ↦ absurd (let e = one.2 in cc)
    ]

    source : (stop : Option Error) → Sourced limit (record { schema = schema; trees = db }) (params p v) (Values vote_terms 5) (Err stop) → IsSome limit
    source None h = absurd h
    source (Some e) (inl typed) = absurd (both_ways _ typed.1 refl)
    source (Some e) (inr over) = over.1

    limited : (text : List ℕ) (stop : Option Error) → Does limit our_mode (params p v) (record { schema = schema; trees = db }) text None vote_command (Err stop) → IsSome limit
    limited text stop h = elim (halted h) [
      | inl writes ↦ elim (halted writes) [
        | inl sourced ↦ source stop sourced
        | inr read ↦ elim (halted read.2) [
          | inl counter ↦ absurd (let e = counter in cc)
          | inr counted ↦ elim (halted counted.2) [
            | inl tried ↦ each _ stop (subst (λ rows. TriesEach (task p v limit Enforced db) Abort (clause p v limit Enforced db ∷ []) rows (count_of counted.0) (nothing db) (Err stop)) read.1.1 tried)
            | inr put ↦ elim (halted put.2) [ inl counts ↦ absurd (let e = counts in cc) | inr gives ↦ absurd (let e = gives.2 in cc) ]
          ]
        ]
      ]
      | inr done ↦ elim (halted done.2) [
        | inl tested ↦ absurd (tested.0 (no_keys (done.0.trees 0), (no_keys (done.0.trees 1), (no_keys (done.0.trees 2), tt))))
        | inr kept ↦ elim (halted kept.2) [ inl returns ↦ absurd (let e = returns in cc) | inr gives ↦ absurd (let e = gives.2 in cc) ]
      ]
    ]

-- ---- the statement

pub vote_failed_inside : (old new : State) (p : ℕ) (v : Vote) → IsValue v.value → p ≤ positions → (es : List Entry) → times p es ≤ 1 → old.now.trees 1 ≡ map vote_row es → old.now.schema ≡ schema
    → (r : Result ℕ Error) → ExecutesInside 0 vote_text (params p v) old new r → IfErr r (λ e. e ≢ SqliteFailure code.OutOfMemory → StoreFailed old new)
vote_failed_inside old new p v good most es once is has r ran =
    inside_failed old new vote_text (params p v) schema has vote_plain vote_whole vote_command vote_is tt refl (limited p v good most old.step_limit old.now.trees es once is (statement_of vote_text (understood schema vote_text))) r ran
