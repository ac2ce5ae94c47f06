-- Why the statements of a new record fail.
use Rattle.std.proofs.Common.{◌≡◌, ◌≢◌, ◌⊎◌, inl, inr, ℕ, ◌+◌, ◌*◌, ◌^◌, ◌<◌, ◌≤◌, List, [], length, true, false, ◌==◌, Option, None, Some, Ok, Err, Result, IsUtf8, codes, refl, sym, ap, subst, ◌∙◌, arith}
use Rattle.std.specs.Prelude.{IfErr}
use Rattle.std.proofs.lemmas.Bool.{both_ways}
use Rattle.sqlite.specs.declared.error.ErrorCode.TheVariants as code
use Rattle.sqlite.specs.declared.error.Error.{Error}
use Rattle.sqlite.specs.declared.error.Error.TheVariants.{SqliteFailure}
use Rattle.sqlite_schema.specs.declared.schema.Schema.{Schema}
use Rattle.sqlite_schema.specs.declared.schema.Table.{Table}
use Rattle.sqlite_schema.specs.declared.command.Command.TheVariants.{CreateTable}
use Rattle.sqlite_catalog.specs.declared.error.Refusal.{Refusal}
use Rattle.sqlite_catalog.specs.declared.error.Refusal.TheVariants.{Invalid, NameTaken, BadName, TooBig, BadKey, BadText, Violates}
use Rattle.sqlite_catalog.specs.Calls.{IsBadName, RefusesTable}
use Rattle.sqlite_catalog.specs.Change.{automatics, created, next_tree, is_used, is_reserved}
use Rattle.sqlite_catalog.specs.Listing.{is_fit, is_formed}
use Rattle.sqlite_schema.specs.Rules.{index_reals, table_reals}
use Rattle.sqlite_rules.specs.Lists.{Has}
use Rattle.sqlite_tied.specs.Compute.{everything}
use Rattle.sqlite_trees.specs.Sound.{begins, fits_kind, is_free_name, same_name}
use Rattle.sqlite_value.specs.Order.{value_cmp}
use Rattle.sqlite.specs.declared.types.Value.TheVariants.{Text}
use Rattle.sqlite.specs.declared.run.Mode.{Mode}
use Rattle.sqlite.specs.Compile.{table_defined_by}
use Rattle.sqlite.specs.Does.{Does, MakesTable, lacks_sequence}
use Rattle.sqlite.specs.Listing.{understood}
use Rattle.sqlite.specs.Order.{Row}
use Rattle.sqlite.specs.Tree.{Trees}
use Rattle.sqlite.specs.State.{State, ExecutesInside, mode_of}
use Rattle.sqlite.proofs.Callers.{IsPlain}
use Rattle.sql_records.specs.Created.{FirstIsEmpty, HaveRows, Makes, half_schema}
use Rattle.record_writes.specs.Faults.{StoreFailed}
use Rattle.record_tables.specs.Texts.{meta, votes, learnt, no_schema, schema_1, meta_text, votes_text, learnt_text}
use Rattle.sql_records.proofs.Means.{meta_is, votes_is, learnt_is}
use Rattle.sql_records.proofs.Creating.{Compiles, meta_creates, meta_plain, votes_creates, votes_plain, learnt_creates, learnt_plain}
use Rattle.record_writes.proofs.Failing.{IsWhole, halted, inside_failed}

-- What there is to say of a table so that nothing refuses to make it.
record CanBeMade (before : Schema) (text : List ℕ) (table : Table) : Type 0 where
  defined : table_defined_by text ≡ Ok table
  utf8 : IsUtf8 text
  named : IsUtf8 table.name
  free : is_used before table.name ≡ false
  common : is_reserved table.name ≡ false
  keyless : table.uniques ≡ []
  low : next_tree before < 65536
  reals : table_reals table < 2 ^ 64
  formed : is_formed table ≡ true
  fit : is_fit (Text (codes "table")) (Text table.name) (Text table.name) (Text text) ≡ true
  short : 2 * length table.name + length text + 200 < 10 ^ 9
  uncounted : lacks_sequence (created before table) ≡ false

-- there are too many trees, or the table has too many columns
abbrev IsBig : Schema → Table → Type 0
IsBig before table = (65536 ≤ next_tree before + length table.uniques) ⊎ ((2 ^ 64 ≤ table_reals table) ⊎ ((key : List ℕ) × Has table.uniques key × (2 ^ 64 ≤ index_reals (table_reals table) key)))

module _ (before : Schema) (text : List ℕ) (table : Table) (can : CanBeMade before text table) where
  the_table : (other : Table) → table_defined_by text ≡ Ok other → other ≡ table
  the_table other is = let both : Ok other ≡ Ok table = sym is ∙ can.defined in cc

  not_refused : (why : Refusal) → ¬ RefusesTable before text why
  not_refused (Invalid e) h = let both : Ok table ≡ Err e = sym can.defined ∙ h in cc
  not_refused NameTaken h = elim h.2 [
    | inl used ↦ both_ways _ (ap (λ (t : Table). is_used before t.name) (the_table h.0 h.1) ∙ can.free) used
    | inr index ↦ subst (λ (t : Table). ¬ Has (automatics t 0 0 t.uniques) index.0) (sym (the_table h.0 h.1)) (rw can.keyless (λ none. none)) index.1
  ]
  not_refused BadName h = elim (subst (λ (t : Table). IsBadName t.name (length t.uniques == 0)) (the_table h.0 h.1) h.2) [
    | inl no_text ↦ no_text can.named
    | inr reserved ↦ both_ways _ can.common reserved.0
  ]
  not_refused TooBig h = elim (subst (λ (t : Table). IsBig before t) (the_table h.0 h.1) h.2) [
    | inl trees ↦ absurd (let low = can.low in let none = ap length can.keyless in omega arith)
    | inr (inl reals) ↦ absurd (let low = can.reals in omega arith)
    | inr (inr key) ↦ subst (λ (keys : List (List ℕ)). ¬ Has keys key.0) (sym can.keyless) (λ none. none) key.1
  ]
  not_refused BadKey h = both_ways _ (ap is_formed (sym (the_table h.0 h.1)) ∙ h.2) can.formed
  not_refused BadText h = both_ways _ (ap (λ (t : Table). is_fit (Text (codes "table")) (Text t.name) (Text t.name) (Text text)) (sym (the_table h.0 h.1)) ∙ h.2) can.fit
  not_refused (Violates rule) h = h

  not_made : (trees : Trees) (stop : Option Error) → ¬ MakesTable text (record { schema = before; trees = trees }) (Err stop)
  not_made trees None h = let long = subst (λ (t : Table). 10 ^ 9 ≤ 2 * length t.name + length text + 200) (the_table h.0 h.1) h.2 in let short = can.short in absurd (omega arith)
  not_made trees (Some e) (inl no_text) = no_text.0 can.utf8
  not_made trees (Some e) (inr refused) = not_refused refused.0 refused.1

  not_stopped : (limit : Option ℕ) (mode : Mode) (trees : Trees) (stop : Option Error) → ¬ Does limit mode [] (record { schema = before; trees = trees }) text None CreateTable (Err stop)
  not_stopped limit mode trees stop h = elim (halted h) [
    | inl makes ↦ elim (halted makes) [
      | inl tables ↦ not_made trees stop tables
      | inr sequence ↦
          let first = sequence.1 in
          let schema : sequence.0.schema ≡ created before table = first.is ∙ ap (created before) (the_table first.table first.defined) in
          let bare : lacks_sequence sequence.0.schema ≡ false = ap lacks_sequence schema ∙ can.uncounted in
          let no = rw bare at sequence.2 in absurd cc
    ]
    | inr gives ↦ absurd (let no = gives.2 in cc)
  ]

meta_can : CanBeMade no_schema meta_text meta
unfolding understood everything lib.Utf8.encode fits_kind is_free_name same_name begins value_cmp lib.Ieee.is_nan lib.Ieee.lt
meta_can = record {
  defined = meta_is;
  utf8 = (meta_text, (refl, refl));
  named = (codes "meta", (refl, refl));
  free = refl;
  common = refl;
  keyless = refl;
  low = omega arith;
  reals = omega arith;
  formed = refl;
  fit = refl;
  short = omega arith;
  uncounted = refl;
}

votes_can : CanBeMade half_schema votes_text (record votes { tree = 0 })
unfolding understood everything lib.Utf8.encode fits_kind is_free_name same_name begins value_cmp lib.Ieee.is_nan lib.Ieee.lt
votes_can = record {
  defined = votes_is;
  utf8 = (votes_text, (refl, refl));
  named = (codes "votes", (refl, refl));
  free = refl;
  common = refl;
  keyless = refl;
  low = omega arith;
  reals = omega arith;
  formed = refl;
  fit = refl;
  short = omega arith;
  uncounted = refl;
}

learnt_can : CanBeMade schema_1 learnt_text (record learnt { tree = 0 })
unfolding understood everything lib.Utf8.encode fits_kind is_free_name same_name begins value_cmp lib.Ieee.is_nan lib.Ieee.lt
learnt_can = record {
  defined = learnt_is;
  utf8 = (learnt_text, (refl, refl));
  named = (codes "learnt", (refl, refl));
  free = refl;
  common = refl;
  keyless = refl;
  low = omega arith;
  reals = omega arith;
  formed = refl;
  fit = refl;
  short = omega arith;
  uncounted = refl;
}

meta_whole : IsWhole (length meta_text) 0 (understood no_schema meta_text)
unfolding understood everything
meta_whole = (omega arith, refl)

votes_whole : IsWhole (length votes_text) 0 (understood half_schema votes_text)
unfolding understood everything
votes_whole = (omega arith, refl)

learnt_whole : IsWhole (length learnt_text) 0 (understood schema_1 learnt_text)
unfolding understood everything
learnt_whole = (omega arith, refl)

module _ (old new : State) (r : Result ℕ Error) where
  table_failed : (text : List ℕ) (before : Schema) (table : Table) → old.now.schema ≡ before → Compiles before text → IsPlain (understood before text) → IsWhole (length text) 0 (understood before text) → CanBeMade before text table
      → ExecutesInside 0 text [] old new r → IfErr r (λ e. e ≢ SqliteFailure code.OutOfMemory → StoreFailed old new)
  table_failed text before table has is plain whole can ran =
      inside_failed old new text [] before has plain whole CreateTable is.0 tt refl
      (λ stop h. absurd (not_stopped before text table can old.step_limit (mode_of old) old.now.trees stop (subst (λ t. Does old.step_limit (mode_of old) [] (record old.now { schema = before }) t None CreateTable (Err stop)) is.1 h))) r ran

  pub meta_failed : Makes old no_schema (λ _. Unit {0}) → ExecutesInside 0 meta_text [] old new r → IfErr r (λ e. e ≢ SqliteFailure code.OutOfMemory → StoreFailed old new)
  meta_failed m ran = table_failed meta_text no_schema meta m.known meta_creates meta_plain meta_whole meta_can ran

  pub votes_failed : Makes old half_schema FirstIsEmpty → ExecutesInside 0 votes_text [] old new r → IfErr r (λ e. e ≢ SqliteFailure code.OutOfMemory → StoreFailed old new)
  votes_failed m ran = table_failed votes_text half_schema (record votes { tree = 0 }) m.known votes_creates votes_plain votes_whole votes_can ran

  pub learnt_failed : (member votes : List Row) → Makes old schema_1 (HaveRows member votes) → ExecutesInside 0 learnt_text [] old new r → IfErr r (λ e. e ≢ SqliteFailure code.OutOfMemory → StoreFailed old new)
  learnt_failed member votes m ran = table_failed learnt_text schema_1 (record learnt { tree = 0 }) m.known learnt_creates learnt_plain learnt_whole learnt_can ran
