-- What the UPDATE to version 2 makes of a record, and why it fails.
use Rattle.std.proofs.Common.{◌≡◌, ◌≢◌, inl, inr, ℕ, List, [], ◌∷◌, length, true, Option, None, Ok, Err, Result, OnOk, refl, sym, subst, ◌∙◌, arith}
use Rattle.std.specs.Prelude.{IfErr}
use Rattle.sqlite_tied.specs.Compute.{everything}
use Rattle.sqlite.specs.declared.error.ErrorCode.TheVariants as code
use Rattle.sqlite.specs.declared.error.Error.{Error}
use Rattle.sqlite.specs.declared.error.Error.TheVariants.{SqliteFailure}
use Rattle.sqlite.specs.Command.TheVariants.{Update}
use Rattle.sqlite.specs.Does.{Does, Tally}
use Rattle.sqlite.specs.declared.run.Mode.{Mode}
use Rattle.sqlite.specs.Effect.{Database}
use Rattle.sqlite.specs.Listing.{understood}
use Rattle.sqlite.specs.Tree.{Trees}
use Rattle.sqlite.specs.State.{State, ExecutesInside, mode_of}
use Rattle.sqlite.proofs.Callers.{statement_of, runs_as}
use Rattle.ballots.specs.Terms.{Setup}
use Rattle.document_names.specs.Names.{are_document_names}
use Rattle.paxos.specs.Records.{Record}
use Rattle.record_tables.specs.Texts.{meta, schema, version_text}
use Rattle.record_tables.specs.declared.version.Version.TheVariants.{First, Second}
use Rattle.sql_records.specs.Created.{HaveNoneLearnt, Makes}
use Rattle.record_writes.specs.Faults.{StoreFailed}
use Rattle.record_writes.specs.Stored.{AreKept, IsStored, meta_row}
use Rattle.sql_records.proofs.Creating.{nothing_kept}
use Rattle.sql_records.proofs.MemberFaults.{names_fit}
use Rattle.sql_records.proofs.Means.{version_is, version_plain, version_query, version_terms}
use Rattle.record_writes.proofs.Failing.{IsWhole}
use Rattle.record_writes.proofs.Update.{updates}
use Rattle.record_writes.proofs.UpdateFaults.{IsRefusedByLimit, update_failed_inside}

-- the UPDATE to version 2
pub raises : (o : Setup) (round leader : ℕ) (limit : Option ℕ) (mode : Mode) (text : List ℕ) (db after : Database) (tally : Tally) → db.schema ≡ schema → db.trees 0 ≡ meta_row 1 o round leader ∷ []
    → Does limit mode [] (record db { schema = schema }) text None (Update 0 (record { lets = []; body = version_query })) (Ok (tally, after))
    → (after.schema ≡ schema) × (after.trees 0 ≡ meta_row 2 o round leader ∷ []) × (after.trees 1 ≡ db.trees 1) × (after.trees 2 ≡ db.trees 2)
raises o round leader = updates o 1 round leader 2 round leader version_terms [] refl

-- version 2 of a record of version 1
pub raised : (o : Setup) (k : Record) (before after : Trees) → after 0 ≡ meta_row 2 o k.promise.round k.promise.member ∷ [] → after 1 ≡ before 1 → after 2 ≡ [] → IsStored First o before k → IsStored Second o after k
raised o k before after meta votes none it = record {
  meta = meta;
  rows = it.rows;
  votes = votes ∙ it.votes;
  once = it.once;
  sound = it.sound;
  complete = it.complete;
  rising = it.rising;
  promise = it.promise;
  each = it.each;
  kept = subst (AreKept (after 2)) (sym it.kept) (subst (λ t. AreKept t []) (sym none) nothing_kept);
}

-- ---- the statement

version_whole : IsWhole (length version_text) 0 (understood schema version_text)
unfolding understood everything
version_whole = (omega arith, refl)

version_limited : IsRefusedByLimit version_terms []
version_limited limit db e (inl h) = absurd (let no = h.1 in cc)
version_limited limit db e (inr (inl (is, inl h))) = absurd h
version_limited limit db e (inr (inl (is, inr h))) = absurd h.4
version_limited limit db e (inr (inr h)) = h.1

module _ (old new : State) (o : Setup) (trees : Trees) (k : Record) (it : IsStored First o trees k) (m : Makes old schema (HaveNoneLearnt (trees 0) (trees 1))) where
  abbrev round : ℕ
  round = k.promise.round

  abbrev leader : ℕ
  leader = k.promise.member

  abbrev db : Trees
  db = old.now.trees

  one : db 0 ≡ meta_row 1 o round leader ∷ []
  one = m.rows.0 ∙ it.meta

  pub version_set : (r : Result ℕ Error) → ExecutesInside 0 version_text [] old new r → OnOk r (Makes new schema (λ after. IsStored Second o after k))
  version_set (Err e) ran = tt
  version_set (Ok count) ran =
      let w = runs_as version_text [] old new schema m.known (Update 0 (record { lets = []; body = version_query })) version_is version_plain count ran.0 in
      let got = raises o round leader old.step_limit (mode_of old) (statement_of version_text (understood schema version_text)) old.now new.now w.tally m.known one
      (subst (λ s. Does old.step_limit (mode_of old) [] (record old.now { schema = s }) (statement_of version_text (understood schema version_text)) None (Update 0 (record { lets = []; body = version_query })) (Ok (w.tally, new.now))) m.known w.changed) in
      record { known = got.0; rows = raised o k trees new.now.trees got.1 (got.2 ∙ m.rows.1) (got.3 ∙ m.rows.2) it; mode = ran.1.mode }

  pub version_failed : are_document_names o.names ≡ true → (r : Result ℕ Error) → ExecutesInside 0 version_text [] old new r → IfErr r (λ e. e ≢ SqliteFailure code.OutOfMemory → StoreFailed old new)
  version_failed good r ran =
      update_failed_inside o (names_fit o good) 1 round leader 2 round leader version_terms [] refl version_limited old new version_text version_is version_plain version_whole m.known one r ran
