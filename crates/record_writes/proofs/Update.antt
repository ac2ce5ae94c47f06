-- What an UPDATE of the member's row makes of a database.
use Rattle.std.proofs.Common.{◌≡◌, ◌⊎◌, ◌≤◌, inl, inr, ℕ, pos, List, [], ◌∷◌, map, Bool, true, false, cond, Option, None, Ok, Err, Result, refl, ap, subst, ◌∙◌, arith}
use Rattle.std.specs.List.Sorted.{IsPermutation}
use Rattle.sqlite.specs.declared.types.Value.{Value}
use Rattle.sqlite.specs.declared.types.Value.TheVariants.{Null, Int}
use Rattle.sqlite.specs.Order.{Row}
use Rattle.sqlite.specs.Term.{Term}
use Rattle.sqlite_value.specs.Order.{value_cmp}
use Rattle.sqlite.specs.Query.{IsAnswer, output, page, Output}
use Rattle.sqlite.specs.Program.{overlay}
use Rattle.sqlite.specs.Kind.TheVariants.{Integer}
use Rattle.sqlite.specs.Command.TheVariants.{Update}
use Rattle.sqlite.specs.Edit.{Edit, edit_of, edited}
use Rattle.sqlite.specs.Cast.{cast}
use Rattle.sqlite.specs.Rowids.TheVariants.{Given}
use Rattle.sqlite.specs.Does.{Tally, Does}
use Rattle.sqlite.specs.declared.run.Mode.{Mode}
use Rattle.sqlite.specs.Rows.{Written}
use Rattle.sqlite.specs.Tree.{Trees}
use Rattle.sqlite_trees.specs.Tree.{has_rowid}
use Rattle.sqlite.specs.Ops.{unary}
use Rattle.sqlite.specs.Effect.{Database}
use Rattle.sqlite.proofs.Callers.{one_step, one_permutation}
use Rattle.sqlite_rules.specs.Calls.{ids_of}
use Rattle.record_tables.specs.Texts.{schema, meta}
use Rattle.ballots.specs.Terms.{Setup}
use Rattle.record_writes.specs.Stored.{meta_row}
use Rattle.record_writes.proofs.Means.{meta_query, promise_query, promise_terms}

-- a part that gave a value did not stop on the way
pub went : {B E R : Type 0} {b : B} {Stops : E → Type 0} → ((stop : E) × Stops stop × (Ok b ≡ Err stop)) ⊎ R → R
went (inl stopped) = absurd (let e = stopped.2 in cc)
went (inr on) = on

pub same_value : {B E : Type 0} {a b : B} → ◌≡◌ {A = Result B E} (Ok a) (Ok b) → a ≡ b
same_value e = cc

either : (b : Bool) (x : Value) → cond b x x ≡ x
either true x = refl
either false x = refl

pub cast_int : (n : ℕ) → cast Integer (Int (pos n)) ≡ Int (pos n)
unfolding unary
cast_int n = either _ (Int (pos n))

pub cast_null : cast Integer Null ≡ Null
unfolding unary
cast_null = either _ Null

module _ (o : Setup) (version round leader version' round' leader' : ℕ) where
  abbrev pub shown : Row
  shown = Int (pos 1) ∷ meta_row version' o round' leader'

  pub same_id : has_rowid (pos 1) (meta_row version o round leader) ≡ true
  unfolding value_cmp lib.Ieee.is_nan lib.Ieee.lt
  same_id = refl

  -- the row is put in the place of the one that was there
  written : (db : Trees) → db 0 ≡ meta_row version o round leader ∷ [] → edited db (edit_of db meta (ids_of (shown ∷ [])) Given 1 (shown ∷ [])) ≡ meta_row version' o round' leader' ∷ []
  written db one = rw (one, cast_null, cast_int 1, cast_int version', cast_int o.group, cast_int o.member, cast_int o.members, cast_int round', cast_int leader', same_id) refl

  module _ (terms : List Term) (params : Row) (gives : output (meta_query terms) (params ∷ meta_row version o round leader ∷ []) ≡ ([], shown)) where
    -- the query of the UPDATE shows the one row
    pub shows : (db : Trees) (rows : List Row) → db 0 ≡ meta_row version o round leader ∷ [] → IsAnswer (meta_query terms) (overlay db []) params rows → rows ≡ shown ∷ []
    shows db rows one a =
        let staged : a.staged ≡ (params ∷ meta_row version o round leader ∷ []) ∷ [] = a.grouped ∙ rw one in
        let out : Output = ([], shown) in
        let kept : a.kept ≡ out ∷ [] = a.distinct ∙ ap (map (output (meta_query terms))) staged ∙ ap (λ (it : Output). it ∷ []) gives in
        let ordered = one_permutation out a.ordered (subst (λ k. IsPermutation k a.ordered) kept a.same) in
        a.shown ∙ ap (λ xs. page (meta_query terms) params (map (λ (p : Output). p.1) xs)) ordered

    pub updates : (limit : Option ℕ) (mode : Mode) (text : List ℕ) (db after : Database) (tally : Tally) → db.schema ≡ schema → db.trees 0 ≡ meta_row version o round leader ∷ []
        → Does limit mode params (record db { schema = schema }) text None (Update 0 (record { lets = []; body = meta_query terms })) (Ok (tally, after))
        → (after.schema ≡ schema) × (after.trees 0 ≡ meta_row version' o round' leader' ∷ []) × (after.trees 1 ≡ db.trees 1) × (after.trees 2 ≡ db.trees 2)
    updates limit mode text db after tally has one does =
        let done = went does in
        let read = went done.1 in
        let rows : read.0 ≡ shown ∷ [] = shows db.trees read.0 one (read.1.answer Null) in
        let edit : Edit = edit_of db.trees meta (ids_of read.0) Given 1 read.0 in
        let next = went read.2 in
        let step = one_step schema _ db.trees next.0 edit refl next.1 in
        let out : done.0.trees ≡ next.0 = ap (λ (w : Written). w.trees) (same_value next.2) in
        let now : after ≡ record { schema = schema; trees = done.0.trees } = ap (λ (p : Tally × Database). p.1) (same_value (went (went done.2).2).2) in
        let news : edited db.trees edit ≡ meta_row version' o round' leader' ∷ [] = ap (λ rs. edited db.trees (edit_of db.trees meta (ids_of rs) Given 1 rs)) rows ∙ written db.trees one in
        let others : (t : ℕ) → 1 ≤ t → after.trees t ≡ db.trees t = λ t low. ap (λ (d : Database). d.trees t) now ∙ ap (λ (trees : Trees). trees t) out ∙ step.others t (omega (arith, low)) tt in (
          ap (λ (d : Database). d.schema) now,
          ap (λ (d : Database). d.trees 0) now ∙ ap (λ (t : Trees). t 0) out ∙ step.rows ∙ news,
          others 1 (omega arith),
          others 2 (omega arith),
        )

-- the UPDATE of a promise
pub promises : (o : Setup) (round leader round' leader' : ℕ) (limit : Option ℕ) (mode : Mode) (text : List ℕ) (db after : Database) (tally : Tally) → db.schema ≡ schema → db.trees 0 ≡ meta_row 2 o round leader ∷ []
    → Does limit mode (Int (pos round') ∷ Int (pos leader') ∷ []) (record db { schema = schema }) text None (Update 0 (record { lets = []; body = promise_query })) (Ok (tally, after))
    → (after.schema ≡ schema) × (after.trees 0 ≡ meta_row 2 o round' leader' ∷ []) × (after.trees 1 ≡ db.trees 1) × (after.trees 2 ≡ db.trees 2)
promises o round leader round' leader' = updates o 2 round leader 2 round' leader' promise_terms (Int (pos round') ∷ Int (pos leader') ∷ []) refl
