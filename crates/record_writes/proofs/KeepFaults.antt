-- Why the INSERT of a learnt value fails.
use Rattle.std.proofs.Common.{◌≡◌, ◌≢◌, inl, inr, ℕ, suc, ◌+◌, ◌≤◌, ◌<◌, ◌^◌, List, [], ◌∷◌, ◌++◌, length, length-append, nat_lt, true, false, ◌==◌, Option, None, Some, Err, Result, IsSome, refl, sym, ap, subst, ◌∙◌, arith}
use Rattle.std.specs.Prelude.{IfErr}
use Rattle.std.specs.Float.{NotNan}
use Rattle.std.proofs.lemmas.Bool.{both_ways}
use Rattle.std.proofs.lemmas.Bool.Decides.{nat_tests}
use Rattle.std.proofs.lemmas.Nat.Bits.{bit_at-zero}
use Rattle.byteorder.specs.Endian.{big_bytes}
use Rattle.byteorder.specs.Numbers.{length-bytes_high_first}
use Rattle.sqlite_value.specs.Order.{number, value_cmp}
use Rattle.sqlite_trees.specs.View.{IsStorableRow}
use Rattle.sqlite_sql.specs.Ops.{binary}
use Rattle.sqlite_schema.specs.declared.schema.Constraint.TheVariants.{Datatype, NotNull, Check, PrimaryKey, Unique, ForeignKey}
use Rattle.sqlite_schema.specs.declared.schema.Keys.TheVariants.{Enforced}
use Rattle.sqlite_schema.specs.Rules.{table_reals}
use Rattle.sqlite_rules.specs.declared.error.Refusal.{Refusal}
use Rattle.sqlite_rules.specs.declared.error.Refusal.TheVariants.{Violates, Mismatch, NoRowid, BadReference, TooDeep}
use Rattle.sqlite_rules.specs.Action.{Writes}
use Rattle.sqlite_rules.specs.Edit.{IsOversized, IsRefused, is_taken}
use Rattle.sqlite_rules.specs.Lists.{Has}
use Rattle.sqlite.specs.declared.error.ErrorCode.TheVariants as code
use Rattle.sqlite.specs.declared.error.Error.{Error}
use Rattle.sqlite.specs.declared.error.Error.TheVariants.{SqliteFailure}
use Rattle.sqlite.specs.Does.{Does}
use Rattle.sqlite.specs.Edit.{Edit, edit_of, edited}
use Rattle.sqlite.specs.Listing.{understood}
use Rattle.sqlite.specs.Order.{Row}
use Rattle.sqlite.specs.Rowids.TheVariants.{Chosen}
use Rattle.sqlite.specs.Rows.{Sourced}
use Rattle.sqlite.specs.Source.TheVariants.{Values}
use Rattle.sqlite.specs.Tree.{Trees}
use Rattle.sqlite.specs.State.{State, Executes, ExecutesInside}
use Rattle.sqlite.proofs.Callers.{statement_of}
use Rattle.ballots.specs.Spelling.{IsValue, value_spelling}
use Rattle.ballots.specs.Values.{positions}
use Rattle.ballots.specs.declared.value.Value.{Value}
use Rattle.ballots.specs.declared.value.Value.TheVariants.{NoOp, Request as Of}
use Rattle.record_tables.specs.Texts.{learnt, schema, keep_text}
use Rattle.record_writes.specs.Faults.{StoreFailed}
use Rattle.record_writes.specs.Stored.{AreKept, learnt_row}
use Rattle.record_writes.proofs.Failing.{each_at, edit_made, failed, halted, inside_failed, no_keys, our_mode}
use Rattle.record_writes.proofs.Faulty.{keep_whole}
use Rattle.record_writes.proofs.Inserted.{keep_params}
use Rattle.record_writes.proofs.LearntRows.{rows_below}
use Rattle.record_writes.proofs.Means.{keep_command, keep_is, keep_plain, keep_terms}
use Rattle.record_writes.proofs.Update.{cast_int, cast_null}
use Rattle.record_writes.proofs.Upsert.{id_test, unequal_number}

-- ---- a value is short

both : (xs ys : List ℕ) (m n : ℕ) → length xs ≤ m → length ys ≤ n → length (xs ++ ys) ≤ m + n
both xs ys m n p q = rw (length-append xs ys) (omega (arith, p, q))

spelled : (n x : ℕ) → length (big_bytes n x) ≤ n
spelled n x = omega (arith, length-bytes_high_first n x)

pub value_short : (v : Value) → IsValue v → length (value_spelling v) ≤ 5000
value_short NoOp is = omega arith
value_short (Of r) is =
    let text = is.text in
    let tail = both (big_bytes 2 (length r.text)) r.text 2 4096 (spelled 2 (length r.text)) (omega (arith, text)) in
    let last : length (r.level ∷ big_bytes 2 (length r.text) ++ r.text) ≤ 4099 = omega (arith, tail) in
    let more = both (big_bytes 8 r.number) (r.level ∷ big_bytes 2 (length r.text) ++ r.text) 8 4099 (spelled 8 r.number) last in
    let all = both (big_bytes 4 r.client) (big_bytes 8 r.number ++ r.level ∷ big_bytes 2 (length r.text) ++ r.text) 4 4107 (spelled 4 r.client) more in
    omega (arith, all)

-- a position is a rowid
pub fits : (p : ℕ) → p ≤ positions → nat_lt p (2 ^ 63) ≡ true
unfolding positions
fits p most = grind (arith, nat_tests)

-- ---- the row can be stored, and no rule refuses it

not_taken : (p : ℕ) (v : Value) (rows : List Row) → ((r : Row) → Has rows r → (q : ℕ) × (w : Value) × (r ≡ learnt_row q w) × (q < p)) → is_taken rows (learnt_row p v) ≡ false
not_taken p v [] below = refl
not_taken p v (r ∷ rows) below =
    let it = below r (inl refl) in
    let low = it.3 in
    let other : (it.0 == p) ≡ false = unequal_number it.0 p (λ same. absurd (omega (arith, low, same))) in
    let rest = not_taken p v rows (λ x h. below x (inr h)) in
    rw (it.2, id_test it.0 p, other, rest) refl

module _ (v : Value) (good : IsValue v) where
  storable : (p : ℕ) → IsStorableRow (table_reals learnt) (learnt_row p v)
  unfolding lib.Ieee.is_nan
  storable p = (
    record {
      typed = λ c is. absurd (let none = bit_at-zero c in omega arith);
      columns = (omega arith, omega arith);
      numbers = each_at (λ v. NotNan (number v)) (learnt_row p v) (tt, (tt, (tt, tt)));
      short = let short = value_short v good in omega (arith, short);
    },
    omega arith,
  )

  fits_table : (p : ℕ) (row : Row) → Has (learnt_row p v ∷ []) row → ¬ IsOversized schema learnt row
  fits_table p row (inl same) (inl big) = big (subst (IsStorableRow (table_reals learnt)) (sym same) (storable p))
  fits_table p row (inr other) (inl big) = absurd other
  fits_table p row has (inr index) = index.1

  module _ (p : ℕ) (db : Trees) (vs : List Value) (kept : AreKept (db 2) vs) (next : p ≡ suc (length vs)) (most : p ≤ positions) where
    abbrev edit : Edit
    edit = record { table = learnt; gone = []; news = learnt_row p v ∷ [] }

    free : is_taken (db 2) (learnt_row p v) ≡ false
    free = not_taken p v (db 2) (λ r has. let it = rows_below (db 2) vs kept r has in (it.0, it.1, it.2, let low = it.3 in omega (arith, low, next)))

    not_refused : (why : Refusal) → ¬ IsRefused schema Enforced db edit why
    unfolding binary value_cmp lib.Ieee.is_nan lib.Ieee.lt
    not_refused (Violates Datatype) h = both_ways _ h refl
    not_refused (Violates NotNull) h = both_ways _ h refl
    not_refused (Violates Check) h = both_ways _ h refl
    not_refused (Violates PrimaryKey) h = both_ways _ h (rw free refl)
    not_refused (Violates Unique) h = h (no_keys (db 0), (no_keys (db 1), (no_keys (edited db edit), tt)))
    not_refused (Violates ForeignKey) h = h
    not_refused Mismatch h = both_ways _ h refl
    not_refused NoRowid h = both_ways _ h (rw (fits p most) refl)
    not_refused BadReference h = both_ways _ h refl
    not_refused TooDeep h = h

    not_edited : (why : Option Refusal) → ¬ Writes schema Enforced db edit (Err why)
    not_edited why h = edit_made schema Enforced db edit refl not_refused (fits_table p) why h

    is_edit : edit_of db learnt [] Chosen 0 (learnt_row p v ∷ []) ≡ edit
    is_edit = rw (cast_null, cast_int p) refl

    by_limit : (limit : Option ℕ) (stop : Option Error) → Sourced limit (record { schema = schema; trees = db }) (keep_params p v) (Values keep_terms 3) (Err stop) → IsSome limit
    by_limit limit None h = absurd h
    by_limit limit (Some e) (inl typed) = absurd (both_ways _ typed.1 refl)
    by_limit limit (Some e) (inr over) = over.1

    limited : (limit : Option ℕ) (text : List ℕ) (stop : Option Error) → Does limit our_mode (keep_params p v) (record { schema = schema; trees = db }) text None keep_command (Err stop) → IsSome limit
    limited limit text stop h = elim (halted h) [
      | inl writes ↦ elim (halted writes) [
        | inl sourced ↦ by_limit limit stop sourced
        | inr given ↦ elim (halted given.2) [
          | inl counter ↦ absurd (let e = counter in cc)
          | inr counted ↦ elim (halted counted.2) [
            | inl edits ↦ absurd (not_edited edits.0 (subst (λ it. Writes schema Enforced db it (Err edits.0)) (ap (edit_of db learnt [] Chosen 0) given.1.1 ∙ is_edit) edits.1))
            | inr put ↦ elim (halted put.2) [ inl counts ↦ absurd (let e = counts in cc) | inr gives ↦ absurd (let e = gives.2 in cc) ]
          ]
        ]
      ]
      | inr done ↦ elim (halted done.2) [
        | inl tested ↦ absurd (tested.0 (no_keys (done.0.trees 0), (no_keys (done.0.trees 1), (no_keys (done.0.trees 2), tt))))
        | inr kept ↦ elim (halted kept.2) [ inl returns ↦ absurd (let e = returns in cc) | inr gives ↦ absurd (let e = gives.2 in cc) ]
      ]
    ]

-- ---- the statement

module _ (old new : State) (p : ℕ) (v : Value) (good : IsValue v) (vs : List Value) (kept : AreKept (old.now.trees 2) vs) (next : p ≡ suc (length vs)) (most : p ≤ positions) (has : old.now.schema ≡ schema) where
  pub keep_failed : (r : Result ℕ Error) → Executes keep_text (keep_params p v) old new r → IfErr r (λ e. e ≢ SqliteFailure code.OutOfMemory → StoreFailed old new)
  keep_failed r ran =
      failed old new keep_text (keep_params p v) schema has keep_plain keep_whole keep_command keep_is tt refl (limited v good p old.now.trees vs kept next most old.step_limit (statement_of keep_text (understood schema keep_text))) r ran

  pub keep_failed_inside : (r : Result ℕ Error) → ExecutesInside 0 keep_text (keep_params p v) old new r → IfErr r (λ e. e ≢ SqliteFailure code.OutOfMemory → StoreFailed old new)
  keep_failed_inside r ran =
      inside_failed old new keep_text (keep_params p v) schema has keep_plain keep_whole keep_command keep_is tt refl (limited v good p old.now.trees vs kept next most old.step_limit (statement_of keep_text (understood schema keep_text))) r ran
