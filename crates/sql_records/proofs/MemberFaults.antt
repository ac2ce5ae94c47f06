-- Why the row of a member is not put in.
use Rattle.std.proofs.Common.{◌≡◌, ◌≢◌, inl, inr, ℕ, ◌*◌, ◌≤◌, List, [], ◌∷◌, length, length-append, flat_map, Bool, true, false, ◌&&◌, nat_le, Option, None, Some, Err, Result, IsSome, refl, ap, subst, ◌∙◌, arith}
use Rattle.std.specs.Prelude.{IfErr}
use Rattle.std.specs.List.{list_all}
use Rattle.std.proofs.lemmas.Bool.{both_ways}
use Rattle.std.proofs.lemmas.Bool.Decides.{nat_tests}
use Rattle.sqlite_value.specs.Order.{value_cmp}
use Rattle.sqlite_sql.specs.Ops.{binary}
use Rattle.sqlite_schema.specs.declared.schema.Constraint.TheVariants.{Datatype, NotNull, Check, PrimaryKey, Unique, ForeignKey}
use Rattle.sqlite_schema.specs.declared.schema.Keys.TheVariants.{Enforced}
use Rattle.sqlite_rules.specs.declared.error.Refusal.{Refusal}
use Rattle.sqlite_rules.specs.declared.error.Refusal.TheVariants.{Violates, Mismatch, NoRowid, BadReference, TooDeep}
use Rattle.sqlite_rules.specs.Action.{Writes}
use Rattle.sqlite_rules.specs.Edit.{IsRefused}
use Rattle.sqlite_tied.specs.Compute.{everything}
use Rattle.sqlite.specs.declared.error.ErrorCode.TheVariants as code
use Rattle.sqlite.specs.declared.error.Error.{Error}
use Rattle.sqlite.specs.declared.error.Error.TheVariants.{SqliteFailure}
use Rattle.sqlite.specs.Command.TheVariants.{Insert}
use Rattle.sqlite.specs.Source.TheVariants.{Values}
use Rattle.sqlite.specs.Does.{Does}
use Rattle.sqlite.specs.Edit.{Edit, edit_of, edited}
use Rattle.sqlite.specs.Rows.{Sourced}
use Rattle.sqlite.specs.Listing.{understood}
use Rattle.sqlite.specs.Rowids.TheVariants.{Chosen}
use Rattle.sqlite.specs.Tree.{Trees}
use Rattle.sqlite.specs.State.{State, ExecutesInside, mode_of}
use Rattle.sqlite.proofs.Callers.{statement_of}
use Rattle.ballots.specs.Terms.{Setup}
use Rattle.document_names.specs.Names.{is_document_name, is_document_name_byte, are_distinct, are_document_names}
use Rattle.sql_records.specs.Created.{HaveNoneLearnt, Makes}
use Rattle.record_writes.specs.Faults.{FitsRow, StoreFailed}
use Rattle.record_writes.specs.Stored.{joined, meta_row}
use Rattle.record_tables.specs.Texts.{meta, schema, member_text}
use Rattle.sql_records.proofs.Creating.{member_inserts, member_plain, member_params, member_shown, member_terms}
use Rattle.record_writes.proofs.Failing.{IsWhole, edit_made, halted, inside_failed, no_keys}
use Rattle.record_writes.proofs.UpdateFaults.{fits_table}
use Rattle.record_writes.proofs.Update.{cast_int, cast_null}

-- ---- the text of the names is short

both : (a b : Bool) → (a && b) ≡ true → (a ≡ true) × (b ≡ true)
both true b h = (refl, h)
both false b h = absurd cc

most_of : (name : List ℕ) → is_document_name name ≡ true → length name ≤ 64
most_of name h =
    let parts = both _ (list_all is_document_name_byte name) h in
    let most = (both (nat_le 1 (length name)) (nat_le (length name) 64) parts.0).1 in
    grind (arith, nat_tests)

more_short : (names : List (List ℕ)) → list_all is_document_name names ≡ true → length (flat_map (λ m. 10 ∷ m) names) ≤ 65 * length names
more_short [] h = omega arith
more_short (name ∷ names) h =
    let parts = both (is_document_name name) (list_all is_document_name names) h in
    let one = most_of name parts.0 in
    let more = more_short names parts.1 in
    let all = length-append (10 ∷ name) (flat_map (λ m. 10 ∷ m) names) in
    omega arith

joined_short : (names : List (List ℕ)) → are_document_names names ≡ true → length (joined names) ≤ 4160
joined_short [] h = omega arith
joined_short (name ∷ names) h =
    let whole = both _ (are_distinct (name ∷ names)) h in
    let good = both _ (list_all is_document_name (name ∷ names)) whole.0 in
    let few = both (nat_le 1 (length (name ∷ names))) (nat_le (length (name ∷ names)) 64) good.0 in
    let parts = both (is_document_name name) (list_all is_document_name names) good.1 in
    let most : length (name ∷ names) ≤ 64 = let test = few.1 in grind (arith, nat_tests) in
    let one = most_of name parts.0 in
    let more = more_short names parts.1 in
    let all = length-append name (flat_map (λ m. 10 ∷ m) names) in
    omega arith

-- ---- the row can be stored, and no rule refuses it

-- the names of documents fit into the member's row
pub names_fit : (o : Setup) → are_document_names o.names ≡ true → FitsRow o
names_fit o good = let short = joined_short o.names good in omega arith

module _ (o : Setup) (good : are_document_names o.names ≡ true) where
  module _ (db : Trees) (none : db 0 ≡ []) where
    abbrev edit : Edit
    edit = record { table = meta; gone = []; news = meta_row 2 o 0 0 ∷ [] }

    not_refused : (why : Refusal) → ¬ IsRefused schema Enforced db edit why
    unfolding binary value_cmp lib.Ieee.is_nan lib.Ieee.lt
    not_refused (Violates Datatype) h = both_ways _ h refl
    not_refused (Violates NotNull) h = both_ways _ h refl
    not_refused (Violates Check) h = both_ways _ h refl
    not_refused (Violates PrimaryKey) h = both_ways _ (rw none at h) refl
    not_refused (Violates Unique) h = h (no_keys (edited db edit), (no_keys (db 1), (no_keys (db 2), tt)))
    not_refused (Violates ForeignKey) h = h
    not_refused Mismatch h = both_ways _ h refl
    not_refused NoRowid h = both_ways _ h refl
    not_refused BadReference h = both_ways _ h refl
    not_refused TooDeep h = h

    not_edited : (why : Option Refusal) → ¬ Writes schema Enforced db edit (Err why)
    not_edited why h = edit_made schema Enforced db edit refl not_refused (fits_table o (names_fit o good) 2 0 0) why h

-- ---- the statement

member_whole : IsWhole (length member_text) 4 (understood schema member_text)
unfolding understood everything
member_whole = (omega arith, refl)

module _ (old new : State) (o : Setup) (good : are_document_names o.names ≡ true) (m : Makes old schema (HaveNoneLearnt [] [])) where
  abbrev db : Trees
  db = old.now.trees

  is_edit : edit_of db meta [] Chosen 0 (member_shown old new o ∷ []) ≡ edit o good db m.rows.0
  is_edit = rw (cast_null, cast_int 1, cast_int 2, cast_int o.group, cast_int o.member, cast_int o.members, cast_int 0) refl

  by_limit : (stop : Option Error) → Sourced old.step_limit (record { schema = schema; trees = db }) (member_params old new o) (Values member_terms 9) (Err stop) → IsSome old.step_limit
  by_limit None h = absurd h
  by_limit (Some e) (inl typed) = absurd (both_ways _ typed.1 refl)
  by_limit (Some e) (inr limit) = limit.1

  limited : (text : List ℕ) (stop : Option Error) → Does old.step_limit (mode_of old) (member_params old new o) (record old.now { schema = schema }) text None (Insert 0 (Values member_terms 9)) (Err stop) → IsSome old.step_limit
  limited text stop h = elim (halted h) [
    | inl writes ↦ elim (halted writes) [
      | inl sourced ↦ by_limit stop sourced
      | inr given ↦ elim (halted given.2) [
        | inl counter ↦ absurd (let e = counter in cc)
        | inr counted ↦ elim (halted counted.2) [
          | inl edits ↦ absurd (not_edited o good db m.rows.0 edits.0 (subst (λ it. Writes schema Enforced db it (Err edits.0)) (ap (edit_of db meta [] Chosen 0) given.1.1 ∙ is_edit) edits.1))
          | inr put ↦ elim (halted put.2) [ inl counts ↦ absurd (let e = counts in cc) | inr gives ↦ absurd (let e = gives.2 in cc) ]
        ]
      ]
    ]
    | inr done ↦ elim (halted done.2) [
      | inl tested ↦ absurd (tested.0 (no_keys (done.0.trees 0), (no_keys (done.0.trees 1), (no_keys (done.0.trees 2), tt))))
      | inr kept ↦ elim (halted kept.2) [ inl returns ↦ absurd (let e = returns in cc) | inr gives ↦ absurd (let e = gives.2 in cc) ]
    ]
  ]

  pub member_failed : (r : Result ℕ Error) → ExecutesInside 0 member_text (member_params old new o) old new r → IfErr r (λ e. e ≢ SqliteFailure code.OutOfMemory → StoreFailed old new)
  member_failed r ran = inside_failed old new member_text (member_params old new o) schema m.known member_plain member_whole (Insert 0 (Values member_terms 9)) member_inserts tt refl (limited (statement_of member_text (understood schema member_text))) r ran
