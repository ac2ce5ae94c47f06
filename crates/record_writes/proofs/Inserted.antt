-- What the INSERT of a learnt value makes of a database.
use Rattle.std.proofs.Common.{◌≡◌, ℕ, pos, List, [], ◌∷◌, Option, None, Ok, refl, ap, ◌∙◌, arith}
use Rattle.sqlite.specs.declared.types.Value.TheVariants.{Int, Blob}
use Rattle.sqlite.specs.Order.{Row}
use Rattle.sqlite.specs.Edit.{edit_of, edited}
use Rattle.sqlite.specs.Rowids.TheVariants.{Chosen}
use Rattle.sqlite.specs.Does.{Tally, Does}
use Rattle.sqlite.specs.declared.run.Mode.{Mode}
use Rattle.sqlite.specs.Rows.{Written}
use Rattle.sqlite.specs.Tree.{Trees}
use Rattle.sqlite.specs.Effect.{Database}
use Rattle.sqlite_trees.specs.Tree.{put_row}
use Rattle.sqlite.proofs.Callers.{one_step}
use Rattle.ballots.specs.Spelling.{value_spelling}
use Rattle.ballots.specs.declared.value.Value.{Value}
use Rattle.record_tables.specs.Texts.{schema, learnt}
use Rattle.record_writes.specs.Stored.{learnt_row}
use Rattle.record_writes.proofs.Means.{keep_command}
use Rattle.record_writes.proofs.Update.{went, same_value, cast_int, cast_null}

module _ (p : ℕ) (v : Value) where
  abbrev pub keep_params : Row
  keep_params = Int (pos p) ∷ Blob (value_spelling v) ∷ []

  row_put : (db : Trees) → edited db (edit_of db learnt [] Chosen 0 (learnt_row p v ∷ [])) ≡ put_row (learnt_row p v) (db 2)
  row_put db = rw (cast_null, cast_int p) refl

  pub keeps : (limit : Option ℕ) (mode : Mode) (text : List ℕ) (db after : Database) (tally : Tally) → db.schema ≡ schema
      → Does limit mode keep_params (record db { schema = schema }) text None keep_command (Ok (tally, after))
      → (after.schema ≡ schema) × (after.trees 2 ≡ put_row (learnt_row p v) (db.trees 2)) × (after.trees 0 ≡ db.trees 0) × (after.trees 1 ≡ db.trees 1)
  keeps limit mode text db after tally has does =
      let done = went does in
      let now = ap (λ (p : Tally × Database). p.1) (same_value (went (went done.2).2).2) in
      let given = went done.1 in
      let written = went (went given.2).2 in
      let counted = went written.2 in
      let trees : done.0.trees ≡ written.0 = ap (λ (it : Written). it.trees) (same_value counted.2) ∙ same_value counted.1 in
      let step = one_step schema _ db.trees written.0 (edit_of db.trees learnt [] Chosen 0 given.0) refl written.1 in
      let row : edited db.trees (edit_of db.trees learnt [] Chosen 0 given.0) ≡ put_row (learnt_row p v) (db.trees 2) = ap (λ all. edited db.trees (edit_of db.trees learnt [] Chosen 0 all)) given.1.1 ∙ row_put db.trees in (
        ap (λ (d : Database). d.schema) now,
        ap (λ (d : Database). d.trees 2) now ∙ ap (λ (t : Trees). t 2) trees ∙ step.rows ∙ row,
        ap (λ (d : Database). d.trees 0) now ∙ ap (λ (t : Trees). t 0) trees ∙ step.others 0 (omega arith) tt,
        ap (λ (d : Database). d.trees 1) now ∙ ap (λ (t : Trees). t 1) trees ∙ step.others 1 (omega arith) tt,
      )
