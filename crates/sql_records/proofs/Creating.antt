-- What the statements of a new record make of a database.
use Rattle.std.proofs.Common.{◌≡◌, inl, ℕ, pos, List, [], ◌∷◌, false, None, Ok, Err, Result, OnOk, refl, sym, ap, subst, ◌∙◌, arith}
use Rattle.std.proofs.lemmas.List.Sorted.{IsPermutation-refl}
use Rattle.sqlite.specs.declared.types.Value.TheVariants.{Null, Int, Text}
use Rattle.sqlite.specs.declared.error.Error.{Error}
use Rattle.sqlite.specs.Order.{Row}
use Rattle.sqlite.specs.Term.{Term, lit, col}
use Rattle.sqlite.specs.Table.{Table}
use Rattle.sqlite.specs.Schema.{Schema}
use Rattle.sqlite.specs.Source.TheVariants.{Values}
use Rattle.sqlite.specs.Command.TheVariants.{Insert, CreateTable}
use Rattle.sqlite.specs.Compile.{table_defined_by}
use Rattle.sqlite.specs.Edit.{edit_of, edited}
use Rattle.sqlite.specs.Rowids.TheVariants.{Chosen}
use Rattle.sqlite.specs.Change.{created, next_tree}
use Rattle.sqlite.specs.Does.{Tally, Does, lacks_sequence}
use Rattle.sqlite.specs.Rows.{Written}
use Rattle.sqlite.specs.Tree.{Trees}
use Rattle.sqlite_catalog.specs.Change.{KeepsRows}
use Rattle.sqlite_tied.specs.Compute.{everything}
use Rattle.sqlite.specs.Listing.{understood}
use Rattle.sqlite.specs.Effect.{Database}
use Rattle.sqlite.specs.State.{State, mode_of, Writes, Executes, ExecutesInside}
use Rattle.sqlite.proofs.Callers.{IsPlain, command_of, statement_of, runs_as, one_step}
use Rattle.ballots.specs.Terms.{Setup}
use Rattle.record_tables.specs.Texts.{meta, votes, learnt, no_schema, schema, schema_1, meta_text, votes_text, learnt_text, member_text}
use Rattle.record_tables.specs.declared.version.Version.TheVariants.{Second}
use Rattle.paxos.specs.Records.{empty_record}
use Rattle.record_writes.specs.Stored.{AreKept, IsStored, joined, meta_row}
use Rattle.sql_records.specs.Created.{FirstIsEmpty, HaveNoneLearnt, HaveRows, Makes, half_schema}
use Rattle.sql_records.proofs.Means.{meta_is, votes_is, learnt_is}
use Rattle.record_writes.proofs.Update.{went, same_value, cast_int, cast_null}

-- a table with no rows keeps nothing as learnt
pub nothing_kept : AreKept [] []
nothing_kept = record { rows = IsPermutation-refl []; few = omega arith; values = λ v none. absurd none }

abbrev pub Compiles : Schema → List ℕ → Type 0
Compiles before text = (command_of (understood before text) ≡ CreateTable) × (statement_of text (understood before text) ≡ text)

pub meta_creates : Compiles no_schema meta_text
unfolding understood everything
meta_creates = (refl, refl)

pub meta_plain : IsPlain (understood no_schema meta_text)
unfolding understood everything
meta_plain = (refl, refl)

pub votes_creates : Compiles half_schema votes_text
unfolding understood everything
votes_creates = (refl, refl)

pub votes_plain : IsPlain (understood half_schema votes_text)
unfolding understood everything
votes_plain = (refl, refl)

pub learnt_creates : Compiles schema_1 learnt_text
unfolding understood everything
learnt_creates = (refl, refl)

pub learnt_plain : IsPlain (understood schema_1 learnt_text)
unfolding understood everything
learnt_plain = (refl, refl)

abbrev pub member_terms : List Term
member_terms = lit (Int (pos 1)) ∷ lit Null ∷ lit (Int (pos 2)) ∷ col 0 0 ∷ col 0 1 ∷ col 0 2 ∷ col 0 3 ∷ lit (Int (pos 0)) ∷ lit (Int (pos 0)) ∷ []

pub member_inserts : command_of (understood schema member_text) ≡ Insert 0 (Values member_terms 9)
unfolding understood everything
member_inserts = refl

pub member_plain : IsPlain (understood schema member_text)
unfolding understood everything
member_plain = (refl, refl)

module _ (old new : State) (text : List ℕ) (before : Schema) (table : Table) (has : old.now.schema ≡ before) where
  -- a table is made, and the rows of the others stay
  made : Compiles before text → IsPlain (understood before text) → table_defined_by text ≡ Ok table → lacks_sequence (created before table) ≡ false → (count : ℕ) → Executes text [] old new (Ok count)
      → (new.now.schema ≡ created before table) × (new.now.trees (next_tree before) ≡ []) × KeepsRows before.tables old.now.trees new.now.trees
  made is plain defined uncounted count h =
      let w = subst (λ t. Writes old new None CreateTable t [] count) is.1 (runs_as text [] old new before has CreateTable is.0 plain count h) in
      let all = went w.changed in
      let first = went all.1 in
      let it = first.1 in
      let both : Ok it.table ≡ Ok table = sym it.defined ∙ defined in
      let same : it.table ≡ table = cc in
      let schema : first.0.schema ≡ created before table = it.is ∙ ap (λ s. created s it.table) has ∙ ap (created before) same in
      let bare : lacks_sequence first.0.schema ≡ false = ap lacks_sequence schema ∙ uncounted in
      let now : new.now ≡ first.0 = ap (λ (p : Tally × Database). p.1) (same_value all.2) ∙ same_value (rw bare at first.2) in (
        ap (λ (d : Database). d.schema) now ∙ schema,
        ap (λ (d : Database). d.trees (next_tree before)) now ∙ subst (λ s. first.0.trees (next_tree s) ≡ []) has it.empty,
        subst (λ (d : Database). KeepsRows before.tables old.now.trees d.trees) (sym now) (subst (λ (s : Schema). KeepsRows s.tables old.now.trees first.0.trees) has it.others),
      )

module _ (old new : State) where
  pub meta_made : (r : Result ℕ Error) → Makes old no_schema (λ _. Unit {0}) → ExecutesInside 0 meta_text [] old new r → OnOk r (Makes new half_schema FirstIsEmpty)
  meta_made (Err e) m ran = tt
  meta_made (Ok count) m ran =
      let it = made old new meta_text no_schema meta m.known meta_creates meta_plain meta_is refl count ran.0 in
      record { known = it.0; rows = it.1; mode = ran.1.mode }

  pub votes_made : (r : Result ℕ Error) → Makes old half_schema FirstIsEmpty → ExecutesInside 0 votes_text [] old new r → OnOk r (Makes new schema_1 (HaveRows [] []))
  votes_made (Err e) m ran = tt
  votes_made (Ok count) m ran =
      let it = made old new votes_text half_schema (record votes { tree = 0 }) m.known votes_creates votes_plain votes_is refl count ran.0 in
      record { known = it.0; rows = (it.2.0 ∙ m.rows, it.1); mode = ran.1.mode }

  pub learnt_made : (r : Result ℕ Error) (member votes : List Row) → Makes old schema_1 (HaveRows member votes) → ExecutesInside 0 learnt_text [] old new r → OnOk r (Makes new schema (HaveNoneLearnt member votes))
  learnt_made (Err e) member votes m ran = tt
  learnt_made (Ok count) member votes m ran =
      let it = made old new learnt_text schema_1 (record learnt { tree = 0 }) m.known learnt_creates learnt_plain learnt_is refl count ran.0 in
      record { known = it.0; rows = (it.2.0 ∙ m.rows.0, it.2.1.0 ∙ m.rows.1, it.1); mode = ran.1.mode }

  module _ (o : Setup) where
    abbrev pub member_params : Row
    member_params = Int (pos o.group) ∷ Int (pos o.member) ∷ Int (pos o.members) ∷ Text (joined o.names) ∷ []

    abbrev pub member_shown : Row
    member_shown = Int (pos 1) ∷ Null ∷ Int (pos 2) ∷ Int (pos o.group) ∷ Int (pos o.member) ∷ Int (pos o.members) ∷ Text (joined o.names) ∷ Int (pos 0) ∷ Int (pos 0) ∷ []

    row_put : (db : Trees) → db 0 ≡ [] → edited db (edit_of db meta [] Chosen 0 (member_shown ∷ [])) ≡ meta_row 2 o 0 0 ∷ []
    row_put db none = rw (none, cast_null, cast_int 1, cast_int 2, cast_int o.group, cast_int o.member, cast_int o.members, cast_int 0) refl

    adds : (count : ℕ) → Makes old schema (HaveNoneLearnt [] []) → Executes member_text member_params old new (Ok count) → (new.now.schema ≡ schema) × (new.now.trees 0 ≡ meta_row 2 o 0 0 ∷ []) × (new.now.trees 1 ≡ []) × (new.now.trees 2 ≡ [])
    adds count m h =
        let db = old.now.trees in
        let command = Insert 0 (Values member_terms 9) in
        let w = runs_as member_text member_params old new schema m.known command member_inserts member_plain count h in
        let text = statement_of member_text (understood schema member_text) in
        let done = went (subst (λ s. Does old.step_limit (mode_of old) member_params (record old.now { schema = s }) text None command (Ok (w.tally, new.now))) m.known w.changed) in
        let now = ap (λ (p : Tally × Database). p.1) (same_value (went (went done.2).2).2) in
        let given = went done.1 in
        let written = went (went given.2).2 in
        let counted = went written.2 in
        let trees : done.0.trees ≡ written.0 = ap (λ (it : Written). it.trees) (same_value counted.2) ∙ same_value counted.1 in
        let step = one_step schema _ db written.0 (edit_of db meta [] Chosen 0 given.0) refl written.1 in
        let row : edited db (edit_of db meta [] Chosen 0 given.0) ≡ meta_row 2 o 0 0 ∷ [] = ap (λ all. edited db (edit_of db meta [] Chosen 0 all)) given.1.1 ∙ row_put db m.rows.0 in (
          ap (λ (d : Database). d.schema) now,
          ap (λ (d : Database). d.trees 0) now ∙ ap (λ (t : Trees). t 0) trees ∙ step.rows ∙ row,
          ap (λ (d : Database). d.trees 1) now ∙ ap (λ (t : Trees). t 1) trees ∙ step.others 1 (omega arith) tt ∙ m.rows.1,
          ap (λ (d : Database). d.trees 2) now ∙ ap (λ (t : Trees). t 2) trees ∙ step.others 2 (omega arith) tt ∙ m.rows.2,
        )

    pub new_stored : (db : Trees) → db 0 ≡ meta_row 2 o 0 0 ∷ [] → db 1 ≡ [] → db 2 ≡ [] → IsStored Second o db empty_record
    new_stored db one none no_values = record {
      meta = one;
      rows = [];
      votes = none;
      once = λ p. omega arith;
      sound = λ e has. absurd has;
      complete = λ e has. absurd has;
      rising = tt;
      promise = inl refl;
      each = λ e has. absurd has;
      kept = subst (λ t. AreKept t []) (sym no_values) nothing_kept;
    }

    pub member_put : (r : Result ℕ Error) → Makes old schema (HaveNoneLearnt [] []) → ExecutesInside 0 member_text member_params old new r → OnOk r (Makes new schema (λ db. IsStored Second o db empty_record))
    member_put (Err e) m ran = tt
    member_put (Ok count) m ran =
        let it = adds count m ran.0 in
        record { known = it.0; rows = new_stored new.now.trees it.1 it.2 it.3; mode = ran.1.mode }
