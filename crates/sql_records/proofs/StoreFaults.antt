-- Why a statement on the tables of a record fails.
use Rattle.std.proofs.Common.{◌≡◌, ◌≢◌, inl, inr, ℕ, List, [], length, Option, false, Ok, Err, Result, IsSome, refl, sym, ap, subst, ◌∙◌, arith}
use Rattle.std.specs.Prelude.{IfErr}
use Rattle.sqlite_trees.specs.declared.error.StoreError.TheVariants.{OutOfMemory}
use Rattle.sqlite.specs.declared.error.ErrorCode.TheVariants as code
use Rattle.sqlite.specs.declared.error.Error.{Error}
use Rattle.sqlite.specs.declared.error.Error.TheVariants.{SqliteFailure}
use Rattle.sqlite_schema.specs.declared.schema.Schema.{Schema}
use Rattle.sqlite_tied.specs.Compute.{everything}
use Rattle.sqlite.specs.Tree.{Trees}
use Rattle.sqlite.specs.Command.TheVariants.{Select}
use Rattle.sqlite.specs.Effect.{Database, RefusesQuery, RefusesToRead}
use Rattle.sqlite.specs.Listing.{understood, reads_listing, IsSourceOf}
use Rattle.sqlite.specs.Query.{Query}
use Rattle.sqlite.specs.State.{State, FailsToQuery}
use Rattle.sqlite.proofs.Callers.{IsPlain, command_of}
use Rattle.record_writes.specs.Faults.{StoreFailed}
use Rattle.record_tables.specs.Texts.{schema, load_text, votes_load_text, learnt_load_text}
use Rattle.record_tables.specs.declared.version.Version.{Version}
use Rattle.record_tables.specs.declared.version.Version.TheVariants.{First, Second}
use Rattle.record_tables.specs.Versions.{AreTables, tables_of}
use Rattle.record_writes.proofs.Failing.{IsWhole, not_run}
use Rattle.sql_records.proofs.Means.{load_query, load_is, load_plain, votes_query, votes_query_is, votes_plain, learnt_query, learnt_query_is, learnt_plain}

load_whole : (v : Version) → IsWhole (length load_text) 0 (understood (tables_of v) load_text)
unfolding understood everything
load_whole First = (omega arith, refl)
load_whole Second = (omega arith, refl)

votes_whole : (v : Version) → IsWhole (length votes_load_text) 0 (understood (tables_of v) votes_load_text)
unfolding understood everything
votes_whole First = (omega arith, refl)
votes_whole Second = (omega arith, refl)

learnt_whole : IsWhole (length learnt_load_text) 0 (understood schema learnt_load_text)
unfolding understood everything
learnt_whole = (omega arith, refl)

-- only a limit on the steps refuses it
abbrev IsRefusedByLimit : Schema → Option ℕ → Query → Type 0
IsRefusedByLimit tables limit q = (db : Trees) (e : Error) → RefusesQuery limit (record { schema = tables; trees = db }) (record { lets = []; body = q }) [] e → IsSome limit

load_limited : (v : Version) (limit : Option ℕ) → IsRefusedByLimit (tables_of v) limit load_query
load_limited First limit db e (inl h) = absurd (let no = h.1 in cc)
load_limited First limit db e (inr (inl (is, inl h))) = absurd h
load_limited First limit db e (inr (inl (is, inr h))) = absurd h.4
load_limited First limit db e (inr (inr h)) = h.1
load_limited Second limit db e (inl h) = absurd (let no = h.1 in cc)
load_limited Second limit db e (inr (inl (is, inl h))) = absurd h
load_limited Second limit db e (inr (inl (is, inr h))) = absurd h.4
load_limited Second limit db e (inr (inr h)) = h.1

votes_limited : (v : Version) (limit : Option ℕ) → IsRefusedByLimit (tables_of v) limit votes_query
votes_limited First limit db e (inl h) = absurd (let no = h.1 in cc)
votes_limited First limit db e (inr (inl (is, inl h))) = absurd h
votes_limited First limit db e (inr (inl (is, inr h))) = absurd h.4
votes_limited First limit db e (inr (inr h)) = h.1
votes_limited Second limit db e (inl h) = absurd (let no = h.1 in cc)
votes_limited Second limit db e (inr (inl (is, inl h))) = absurd h
votes_limited Second limit db e (inr (inl (is, inr h))) = absurd h.4
votes_limited Second limit db e (inr (inr h)) = h.1

learnt_limited : (limit : Option ℕ) → IsRefusedByLimit schema limit learnt_query
learnt_limited limit db e (inl h) = absurd (let no = h.1 in cc)
learnt_limited limit db e (inr (inl (is, inl h))) = absurd h
learnt_limited limit db e (inr (inl (is, inr h))) = absurd h.4
learnt_limited limit db e (inr (inr h)) = h.1

module _ (old new : State) where
  module _ (sql : List ℕ) (tables : Schema) (has : old.now.schema ≡ tables) (plain : IsPlain (understood tables sql)) (whole : IsWhole (length sql) 0 (understood tables sql)) where
    module _ (q : Query) (names : List (List ℕ)) (is : command_of (understood tables sql) ≡ Select (record { lets = []; body = q }) names) (unlisted : reads_listing tables sql ≡ false)
        (limited : IsRefusedByLimit tables old.step_limit q) where
      refused : (db : Database) (e : Error) → db.schema ≡ tables → RefusesQuery old.step_limit db (record { lets = []; body = q }) [] e → IsSome old.step_limit
      refused db e known h = limited db.trees e (subst (λ s. RefusesQuery old.step_limit (record { schema = s; trees = db.trees }) (record { lets = []; body = q }) [] e) known h)

      pub store_failed : (e : Error) → FailsToQuery sql [] old new e → e ≢ SqliteFailure code.OutOfMemory → StoreFailed old new
      unfolding FailsToQuery
      store_failed e (inl h) other = not_run old new sql [] tables has plain whole e h other
      store_failed e (inr h) other =
          let known = sym h.1.is ∙ ap (λ s. understood s sql) has in
          let p = subst IsPlain (sym known) plain in
          let it = rw (p.0, p.1) at h.2 in
          let db : it.0 ≡ old.now = subst (λ b. IsSourceOf b old.now it.0) (ap (λ s. reads_listing s sql) has ∙ unlisted) it.1 in
          inr (inr (refused it.0 e (ap (λ (d : Database). d.schema) db ∙ has) (subst (λ k. RefusesToRead old.step_limit k it.0 [] e) (ap command_of known ∙ is) it.2)))

pub load_failed : (old new : State) → AreTables old.now.schema → (e : Error) → FailsToQuery load_text [] old new e → e ≢ SqliteFailure code.OutOfMemory → StoreFailed old new
load_failed old new t e h other =
    store_failed old new load_text (tables_of t.0) t.1 (load_plain t.0) (load_whole t.0) load_query _ (load_is t.0).0 (load_is t.0).1 (load_limited t.0 old.step_limit) e h other

pub votes_failed : (old new : State) → AreTables old.now.schema → (e : Error) → FailsToQuery votes_load_text [] old new e → e ≢ SqliteFailure code.OutOfMemory → StoreFailed old new
votes_failed old new t e h other =
    store_failed old new votes_load_text (tables_of t.0) t.1 (votes_plain t.0) (votes_whole t.0) votes_query _ (votes_query_is t.0).0 (votes_query_is t.0).1 (votes_limited t.0 old.step_limit) e h other

pub learnt_failed : (old new : State) → old.now.schema ≡ schema → (e : Error) → FailsToQuery learnt_load_text [] old new e → e ≢ SqliteFailure code.OutOfMemory → StoreFailed old new
learnt_failed old new has e h other =
    store_failed old new learnt_load_text schema has learnt_plain learnt_whole learnt_query _ learnt_query_is.0 learnt_query_is.1 (learnt_limited old.step_limit) e h other

pub load_fails : {V : Type 0} (old new : State) → AreTables old.now.schema → (r : Result V Error) → IfErr r (FailsToQuery load_text [] old new) → IfErr r (λ e. e ≢ SqliteFailure code.OutOfMemory → StoreFailed old new)
load_fails old new t (Ok v) h = tt
load_fails old new t (Err e) h = load_failed old new t e h
