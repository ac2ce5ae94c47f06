-- Why an UPDATE of the member's row fails.
use Rattle.std.proofs.Common.{◌≡◌, ◌≢◌, inl, inr, ℕ, pos, List, [], ◌∷◌, length, Option, None, Some, Err, Result, IsSome, refl, sym, ap, subst, ◌∙◌, arith}
use Rattle.std.specs.Prelude.{IfErr}
use Rattle.std.specs.Float.{NotNan}
use Rattle.std.proofs.lemmas.Bool.{both_ways}
use Rattle.std.proofs.lemmas.Nat.Bits.{bit_at-zero}
use Rattle.sqlite_value.specs.Order.{number, value_cmp}
use Rattle.sqlite_trees.specs.View.{IsStorableRow}
use Rattle.sqlite_sql.specs.Ops.{binary}
use Rattle.sqlite_schema.specs.declared.schema.Constraint.TheVariants.{Datatype, NotNull, Check, PrimaryKey, Unique, ForeignKey}
use Rattle.sqlite_schema.specs.declared.schema.Keys.TheVariants.{Enforced}
use Rattle.sqlite_schema.specs.Rules.{table_reals}
use Rattle.sqlite_rules.specs.declared.error.Refusal.{Refusal}
use Rattle.sqlite_rules.specs.declared.error.Refusal.TheVariants.{Violates, Mismatch, NoRowid, BadReference, TooDeep}
use Rattle.sqlite_rules.specs.Action.{Writes}
use Rattle.sqlite_rules.specs.Calls.{ids_of}
use Rattle.sqlite_rules.specs.Edit.{IsOversized, IsRefused}
use Rattle.sqlite_rules.specs.Lists.{Has}
use Rattle.sqlite_tied.specs.Compute.{everything}
use Rattle.sqlite.specs.declared.error.ErrorCode.TheVariants as code
use Rattle.sqlite.specs.declared.error.Error.{Error}
use Rattle.sqlite.specs.declared.error.Error.TheVariants.{SqliteFailure}
use Rattle.sqlite.specs.Command.TheVariants.{Update}
use Rattle.sqlite.specs.Does.{Does}
use Rattle.sqlite.specs.Edit.{Edit, edit_of, edited}
use Rattle.sqlite.specs.Effect.{RefusesQuery}
use Rattle.sqlite.specs.Listing.{understood}
use Rattle.sqlite.specs.Order.{Row}
use Rattle.sqlite.specs.Query.{output}
use Rattle.sqlite.specs.Rowids.TheVariants.{Given}
use Rattle.sqlite.specs.Rows.{Queried}
use Rattle.sqlite.specs.Term.{Term}
use Rattle.sqlite.specs.declared.types.Value.TheVariants.{Int, Null}
use Rattle.sqlite.specs.Tree.{Trees}
use Rattle.sqlite.specs.State.{State, Executes, ExecutesInside}
use Rattle.sqlite.proofs.Callers.{IsPlain, command_of, statement_of}
use Rattle.ballots.specs.Terms.{Setup}
use Rattle.record_tables.specs.Texts.{meta, schema, promise_text}
use Rattle.record_writes.specs.Faults.{FitsRow, StoreFailed}
use Rattle.record_writes.specs.Stored.{meta_row}
use Rattle.record_writes.proofs.Failing.{IsWhole, each_at, edit_made, failed, halted, inside_failed, no_keys, our_mode}
use Rattle.record_writes.proofs.Means.{meta_query, promise_is, promise_plain, promise_terms}
use Rattle.record_writes.proofs.Update.{cast_int, cast_null, shown, shows}

-- only a limit on the steps refuses the query of the UPDATE
abbrev pub IsRefusedByLimit : List Term → (params : Row) → Type 0
IsRefusedByLimit terms params = (limit : Option ℕ) (db : Trees) (e : Error) → RefusesQuery limit (record { schema = schema; trees = db }) (record { lets = []; body = meta_query terms }) params e → IsSome limit

module _ (o : Setup) (fits : FitsRow o) where
  pub storable : (version round leader : ℕ) → IsStorableRow (table_reals meta) (meta_row version o round leader)
  unfolding lib.Ieee.is_nan
  storable version round leader = (
    record {
      typed = λ c is. absurd (let none = bit_at-zero c in omega arith);
      columns = (omega arith, omega arith);
      numbers = each_at (λ v. NotNan (number v)) (meta_row version o round leader) (tt, (tt, (tt, (tt, (tt, (tt, (tt, (tt, (tt, tt)))))))));
      short = omega (arith, fits);
    },
    omega arith,
  )

  pub fits_table : (version round leader : ℕ) (row : Row) → Has (meta_row version o round leader ∷ []) row → ¬ IsOversized schema meta row
  fits_table version round leader row (inl same) (inl big) = big (subst (IsStorableRow (table_reals meta)) (sym same) (storable version round leader))
  fits_table version round leader row (inr other) (inl big) = absurd other
  fits_table version round leader row has (inr index) = index.1

  module _ (version round leader version' round' leader' : ℕ) where
    module _ (db : Trees) (one : db 0 ≡ meta_row version o round leader ∷ []) where
      abbrev edit : Edit
      edit = record { table = meta; gone = pos 1 ∷ []; news = meta_row version' o round' leader' ∷ [] }

      not_refused : (why : Refusal) → ¬ IsRefused schema Enforced db edit why
      unfolding binary value_cmp lib.Ieee.is_nan lib.Ieee.lt
      not_refused (Violates Datatype) h = both_ways _ h refl
      not_refused (Violates NotNull) h = both_ways _ h refl
      not_refused (Violates Check) h = both_ways _ h refl
      not_refused (Violates PrimaryKey) h = both_ways _ (rw one at h) refl
      not_refused (Violates Unique) h = h (no_keys (edited db edit), (no_keys (db 1), (no_keys (db 2), tt)))
      not_refused (Violates ForeignKey) h = h
      not_refused Mismatch h = both_ways _ h refl
      not_refused NoRowid h = both_ways _ h refl
      not_refused BadReference h = both_ways _ h refl
      not_refused TooDeep h = h

      not_edited : (why : Option Refusal) → ¬ Writes schema Enforced db edit (Err why)
      not_edited why h = edit_made schema Enforced db edit refl not_refused (fits_table version' round' leader') why h

    module _ (terms : List Term) (params : Row) (gives : output (meta_query terms) (params ∷ meta_row version o round leader ∷ []) ≡ ([], shown o version round leader version' round' leader')) (refused : IsRefusedByLimit terms params) where
      abbrev rows : List Row
      rows = shown o version round leader version' round' leader' ∷ []

      module _ (limit : Option ℕ) (db : Trees) (one : db 0 ≡ meta_row version o round leader ∷ []) where
        is_edit : edit_of db meta (ids_of rows) Given 1 rows ≡ edit db one
        is_edit = rw (cast_null, cast_int 1, cast_int version', cast_int o.group, cast_int o.member, cast_int o.members, cast_int round', cast_int leader') refl

        by_limit : (stop : Option Error) → Queried limit (record { schema = schema; trees = db }) (record { lets = []; body = meta_query terms }) params (Err stop) → IsSome limit
        by_limit None h = absurd h
        by_limit (Some e) h = refused limit db e h

        limited : (text : List ℕ) (stop : Option Error) → Does limit our_mode params (record { schema = schema; trees = db }) text None (Update 0 (record { lets = []; body = meta_query terms })) (Err stop) → IsSome limit
        limited text stop h = elim (halted h) [
          | inl writes ↦ elim (halted writes) [
            | inl queried ↦ by_limit stop queried
            | inr read ↦ elim (halted read.2) [
              | inl edits ↦
                  let all : read.0 ≡ rows = shows o version round leader version' round' leader' terms params gives db read.0 one (read.1.answer Null) in
                  absurd (not_edited db one edits.0 (subst (λ it. Writes schema Enforced db it (Err edits.0)) (ap (λ rs. edit_of db meta (ids_of rs) Given 1 rs) all ∙ is_edit) edits.1))
              | inr gives ↦ absurd (let e = gives.2 in cc)
            ]
          ]
          | inr done ↦ elim (halted done.2) [
            | inl tested ↦ absurd (tested.0 (no_keys (done.0.trees 0), (no_keys (done.0.trees 1), (no_keys (done.0.trees 2), tt))))
            | inr kept ↦ elim (halted kept.2) [ inl returns ↦ absurd (let e = returns in cc) | inr gives ↦ absurd (let e = gives.2 in cc) ]
          ]
        ]

      module _ (old new : State) (sql : List ℕ) (is : command_of (understood schema sql) ≡ Update 0 (record { lets = []; body = meta_query terms })) (plain : IsPlain (understood schema sql)) (whole : IsWhole (length sql) (length params) (understood schema sql))
          (has : old.now.schema ≡ schema) (one : old.now.trees 0 ≡ meta_row version o round leader ∷ []) where
        pub update_failed : (r : Result ℕ Error) → Executes sql params old new r → IfErr r (λ e. e ≢ SqliteFailure code.OutOfMemory → StoreFailed old new)
        update_failed r ran = failed old new sql params schema has plain whole (Update 0 (record { lets = []; body = meta_query terms })) is tt refl (limited old.step_limit old.now.trees one (statement_of sql (understood schema sql))) r ran

        pub update_failed_inside : (r : Result ℕ Error) → ExecutesInside 0 sql params old new r → IfErr r (λ e. e ≢ SqliteFailure code.OutOfMemory → StoreFailed old new)
        update_failed_inside r ran = inside_failed old new sql params schema has plain whole (Update 0 (record { lets = []; body = meta_query terms })) is tt refl (limited old.step_limit old.now.trees one (statement_of sql (understood schema sql))) r ran

pub promise_whole : IsWhole (length promise_text) 2 (understood schema promise_text)
unfolding understood everything
promise_whole = (omega arith, refl)

promise_limited : (round leader : ℕ) → IsRefusedByLimit promise_terms (Int (pos round) ∷ Int (pos leader) ∷ [])
promise_limited round leader limit db e (inl h) = absurd (let no = h.1 in cc)
promise_limited round leader limit db e (inr (inl (is, inl h))) = absurd h
promise_limited round leader limit db e (inr (inl (is, inr h))) = absurd h.4
promise_limited round leader limit db e (inr (inr h)) = h.1

-- the UPDATE of a promise
module _ (old new : State) (o : Setup) (fits : FitsRow o) (round leader round' leader' : ℕ) (has : old.now.schema ≡ schema) (one : old.now.trees 0 ≡ meta_row 2 o round leader ∷ []) where
  pub promise_failed : (r : Result ℕ Error) → Executes promise_text (Int (pos round') ∷ Int (pos leader') ∷ []) old new r → IfErr r (λ e. e ≢ SqliteFailure code.OutOfMemory → StoreFailed old new)
  promise_failed r ran =
      update_failed o fits 2 round leader 2 round' leader' promise_terms (Int (pos round') ∷ Int (pos leader') ∷ []) refl (promise_limited round' leader') old new promise_text promise_is promise_plain promise_whole has one r ran

  pub promise_failed_inside : (r : Result ℕ Error) → ExecutesInside 0 promise_text (Int (pos round') ∷ Int (pos leader') ∷ []) old new r → IfErr r (λ e. e ≢ SqliteFailure code.OutOfMemory → StoreFailed old new)
  promise_failed_inside r ran =
      update_failed_inside o fits 2 round leader 2 round' leader' promise_terms (Int (pos round') ∷ Int (pos leader') ∷ []) refl (promise_limited round' leader') old new promise_text promise_is promise_plain promise_whole has one r ran
