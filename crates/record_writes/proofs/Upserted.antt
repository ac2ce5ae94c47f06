-- What the upsert of a vote makes of a database.
use Rattle.std.proofs.Common.{◌≡◌, ◌≢◌, inl, inr, ℕ, ℤ, ◌≤◌, ◌+◌, pos, List, [], ◌∷◌, map, Bool, true, false, cond, Option, Some, None, Ok, refl, sym, ap, subst, ◌∙◌, arith}
use Rattle.std.specs.List.Sorted.{IsPermutation}
use Rattle.sqlite.specs.declared.types.Value.TheVariants.{Null, Int, Blob}
use Rattle.sqlite.specs.Order.{Row}
use Rattle.sqlite.specs.Edit.{Edit, edit_of, edited}
use Rattle.sqlite.specs.Cast.{cast_row}
use Rattle.sqlite.specs.Rowids.TheVariants.{Given}
use Rattle.sqlite.specs.Does.{Tally, Does}
use Rattle.sqlite.specs.declared.run.Mode.{Mode}
use Rattle.sqlite_value.specs.Keys.{first_key}
use Rattle.sqlite_trees.specs.Tree.{without_rowid}
use Rattle.sqlite.proofs.Callers.{one_permutation}
use Rattle.sqlite.specs.Rows.{Clears, Meets, Puts, Updates, shown, Written, Task, TriesEach, Tries, Upserts, Judged, nothing, count_of, rowids_for}
use Rattle.sqlite_rules.specs.Edit.{with_rowid}
use Rattle.sqlite_schema.specs.declared.schema.Keys.{Keys}
use Rattle.sqlite_schema.specs.declared.command.Upsert.{Upsert}
use Rattle.sqlite_schema.specs.declared.command.Conflict.TheVariants.{Abort}
use Rattle.sqlite_rules.specs.declared.error.Refusal.{Refusal}
use Rattle.sqlite.specs.Tree.{Trees}
use Rattle.sqlite_trees.specs.Tree.{put_row, rowid}
use Rattle.sqlite_rules.specs.Calls.{ids_of}
use Rattle.sqlite.specs.Program.{overlay}
use Rattle.sqlite.specs.Query.{IsAnswer, matches, end, output, page, Output}
use Rattle.std.specs.List.{flat_map}
use Rattle.sqlite_rules.specs.Lists.{Has}
use Rattle.sqlite_rules.specs.Keys.{AreConflicts, conflicts}
use Rattle.std.proofs.Common.{◌&&◌, ◌||◌, ◌==◌}
use Rattle.record_writes.proofs.Upsert.{sql_test, entry, without, puts, leaves, none_at, all_without, equal, same_number}
use Rattle.std.proofs.Common.{◌++◌}
use Rattle.sqlite.specs.Effect.{Database}
use Rattle.sqlite.proofs.Callers.{one_step}
use Rattle.ballots.specs.Spelling.{value_spelling}
use Rattle.ballots.specs.declared.value.Vote.{Vote}
use Rattle.ballots.specs.declared.value.Entry.{Entry}
use Rattle.paxos.specs.Records.{with_vote}
use Rattle.record_tables.specs.Texts.{schema, votes}
use Rattle.record_writes.specs.Stored.{vote_row, times}
use Rattle.record_writes.proofs.Means.{vote_command, upsert_query}
use Rattle.record_writes.proofs.Update.{went, same_value, cast_int, cast_null}

module _ (p : ℕ) (v : Vote) where
  abbrev pub params : Row
  params = Int (pos p) ∷ Int (pos v.ballot.round) ∷ Int (pos v.ballot.member) ∷ Blob (value_spelling v.value) ∷ []

  pub casts : cast_row votes (vote_row (entry p v)) ≡ vote_row (entry p v)
  casts = rw (cast_int p, cast_null, cast_int v.ballot.round, cast_int v.ballot.member) refl

  module _ (limit : Option ℕ) (keys : Keys) (db : Trees) where
    abbrev pub task : Task
    task = record { limit = limit; keys = keys; schema = schema; table = votes; params = params }

    abbrev pub clause : Upsert
    clause = record { target = Some (0 ∷ []); update = Some (record { lets = []; body = upsert_query }) }

    -- the one row is tried
    tried : (top : ℤ) (out : Written × ℤ) → TriesEach task Abort (clause ∷ []) (vote_row (entry p v) ∷ []) top (nothing db) (Ok out)
        → (w : Written) × Tries task Abort (clause ∷ []) (vote_row (entry p v)) db (Ok w) × (out.0.trees ≡ w.trees)
    tried top out h =
        let first = went h in
        (first.0, subst (λ r. Tries task Abort (clause ∷ []) (with_rowid (rowids_for votes top) (db 1) r) db (Ok first.0)) casts first.1, ap (λ (x : Written × ℤ). x.0.trees) (same_value first.2))

    -- it passes, and then it is put in, or the row that is there is updated
    judged : (w : Written) → Tries task Abort (clause ∷ []) (vote_row (entry p v)) db (Ok w) → Upserts task Abort (vote_row (entry p v)) db (clause ∷ []) (Ok w)
    judged w (inl refused) = absurd (let e = refused.1 in cc)
    judged w (inr h) = by h.0 h.2
      where
        by : (verdict : Option Refusal) → Judged task Abort (clause ∷ []) (vote_row (entry p v)) db verdict (Ok w) → Upserts task Abort (vote_row (entry p v)) db (clause ∷ []) (Ok w)
        by None h = h
        by (Some why) h = absurd (let e = h in cc)

  pub votes_does : (limit : Option ℕ) (mode : Mode) (text : List ℕ) (db after : Database) (tally : Tally) → db.schema ≡ schema
      → Does limit mode params (record db { schema = schema }) text None vote_command (Ok (tally, after))
      → (after.schema ≡ schema) × (w : Written) × Upserts (task limit mode.keys db.trees) Abort (vote_row (entry p v)) db.trees (clause limit mode.keys db.trees ∷ []) (Ok w) × (after.trees ≡ w.trees)
  votes_does limit mode text db after tally has does =
      let done = went does in
      let now : after ≡ record { schema = schema; trees = done.0.trees } = ap (λ (p : Tally × Database). p.1) (same_value (went (went done.2).2).2) in
      let given = went done.1 in
      let counted = went given.2 in
      let each = went counted.2 in
      let last = went each.2 in
      let it = tried limit mode.keys db.trees _ each.0 (subst (λ rows. TriesEach (task limit mode.keys db.trees) Abort (clause limit mode.keys db.trees ∷ []) rows (count_of counted.0) (nothing db.trees) (Ok each.0)) given.1.1 each.1) in
      (ap (λ (d : Database). d.schema) now, it.0, judged limit mode.keys db.trees it.0 it.1, ap (λ (d : Database). d.trees) now ∙ ap (λ (w : Written). w.trees) (same_value last.2) ∙ same_value last.1 ∙ it.2)

  -- Where no row is there, the new one is put in.
  module _ (limit : Option ℕ) (keys : Keys) (db : Trees) where
    put_in : (w : Written) → Puts (task limit keys db) (vote_row (entry p v)) db (Ok w) → (w.trees 1 ≡ put_row (vote_row (entry p v)) (db 1)) × (w.trees 0 ≡ db 0) × (w.trees 2 ≡ db 2)
    put_in w h =
        let edit : Edit = edit_of db votes [] Given 0 (vote_row (entry p v) ∷ []) in
        let next = went h in
        let step = one_step schema keys db next.0 edit refl next.1 in
        let out : w.trees ≡ next.0 = ap (λ (w : Written). w.trees) (same_value next.2) in
        (ap (λ (t : Trees). t 1) out ∙ step.rows ∙ ap (λ r. put_row r (db 1)) casts, ap (λ (t : Trees). t 0) out ∙ step.others 0 (omega arith) tt, ap (λ (t : Trees). t 2) out ∙ step.others 2 (omega arith) tt)

    -- Where one is there, it is updated.
    abbrev given : Row → Row
    given there = params ++ rowid there ∷ shown votes (vote_row (entry p v))

    updated : (there : Row) (w : Written) → Updates (task limit keys db) (record { lets = []; body = upsert_query }) (given there) db (Ok w)
        → (rows : List Row) × IsAnswer upsert_query (overlay db []) (given there) rows × (w.trees 1 ≡ edited db (edit_of db votes (ids_of rows) Given 1 rows)) × (w.trees 0 ≡ db 0) × (w.trees 2 ≡ db 2)
    updated there w h =
        let read = went h in
        let edit : Edit = edit_of db votes (ids_of read.0) Given 1 read.0 in
        let next = went read.2 in
        let step = one_step schema keys db next.0 edit refl next.1 in
        let out : w.trees ≡ next.0 = ap (λ (w : Written). w.trees) (same_value next.2) in
        (read.0, read.1.answer Null, ap (λ (t : Trees). t 1) out ∙ step.rows, ap (λ (t : Trees). t 0) out ∙ step.others 0 (omega arith) tt, ap (λ (t : Trees). t 2) out ∙ step.others 2 (omega arith) tt)

has_map : (es : List Entry) (r : Row) → Has (map vote_row es) r → (e : Entry) × Has es e × (r ≡ vote_row e)
has_map [] r h = absurd h
has_map (e ∷ es) r (inl is) = (e, inl refl, is)
has_map (e ∷ es) r (inr h) = let it = has_map es r h in (it.0, inr it.1, it.2)

in_map : (es : List Entry) (x : Entry) → Has es x → Has (map vote_row es) (vote_row x)
in_map [] x none = absurd none
in_map (e ∷ es) x (inl is) = inl (ap vote_row is)
in_map (e ∷ es) x (inr has) = inr (in_map es x has)

yes_eq : (b : Bool) → ((b && true) || false) ≡ true → b ≡ true
yes_eq true h = refl
yes_eq false h = h

at_place : ℕ → List Entry → List Entry
at_place p [] = []
at_place p (e ∷ es) = cond (e.position == p) (e ∷ at_place p es) (at_place p es)

nothing_at : (p : ℕ) (es : List Entry) → times p es ≡ 0 → at_place p es ≡ []
unfolding at_place
nothing_at p [] h = refl
nothing_at p (e ∷ es) h = by (nothing_at p es) (e.position == p) h
  where
    by : (times p es ≡ 0 → at_place p es ≡ []) → (b : Bool) → cond b 1 0 + times p es ≡ 0 → cond b (e ∷ at_place p es) (at_place p es) ≡ []
    by rest true k = absurd (omega arith)
    by rest false k = rest (omega (arith, k))

has_times : (p : ℕ) (es : List Entry) (e : Entry) → Has es e → e.position ≡ p → 1 ≤ times p es
has_times p [] e none same = absurd none
has_times p (f ∷ fs) e (inl is) same = let yes = equal f.position p (ap (λ (x : Entry). x.position) (sym is) ∙ same) in rw yes (omega arith)
has_times p (f ∷ fs) e (inr has) same = let more = has_times p fs e has same in omega arith

one_at : (p : ℕ) (es : List Entry) (e : Entry) → times p es ≤ 1 → Has es e → e.position ≡ p → at_place p es ≡ e ∷ []
unfolding at_place
one_at p [] e once has same = absurd has
one_at p (f ∷ fs) e once (inl is) same =
    let here : f.position ≡ p = ap (λ (x : Entry). x.position) (sym is) ∙ same in
    let yes = equal f.position p here in
    let rest = nothing_at p fs (omega (arith, rw yes at once)) in
    rw (yes, rest) (ap (λ (x : Entry). x ∷ []) (sym is))
one_at p (f ∷ fs) e once (inr has) same = by (λ few. one_at p fs e few has same) (f.position == p) once
  where
    by : (times p fs ≤ 1 → at_place p fs ≡ e ∷ []) → (b : Bool) → cond b 1 0 + times p fs ≤ 1 → cond b (f ∷ at_place p fs) (at_place p fs) ≡ e ∷ []
    by rest true k = absurd (let more = has_times p fs e has same in omega arith)
    by rest false k = rest (omega (arith, k))

module _ (p : ℕ) (v : Vote) (es : List Entry) (once : times p es ≤ 1) where
  abbrev pub new : Row
  new = vote_row (entry p v)

  conflict_test : (e : Entry) → conflicts (Some (0 ∷ [])) [] votes new (vote_row e) ≡ (((e.position == p) && true) || false)
  unfolding first_key
  conflict_test e = ap (λ b. (b && true) || false) (sql_test e.position p)

  -- a row that conflicts has the position
  pub meets : (db : Trees) (there : Row) (more : List Row) → db 1 ≡ map vote_row es → AreConflicts (Some (0 ∷ [])) [] votes (db 1) new (there ∷ more) → (e : Entry) × Has es e × (e.position ≡ p) × (there ≡ Int (pos p) ∷ [])
  meets db there more is h =
      let s = h.sound there (inl refl) in
      let it = has_map es s.0 (subst (λ rs. Has rs s.0) is s.1) in
      let test : conflicts (Some (0 ∷ [])) [] votes new (vote_row it.0) ≡ true = subst (λ r. conflicts (Some (0 ∷ [])) [] votes new r ≡ true) it.2 s.2 in
      let same : it.0.position ≡ p = same_number it.0.position p (yes_eq _ (sym (conflict_test it.0) ∙ test)) in
      (it.0, it.1, same, s.3 ∙ ap (λ (r : Row). rowid r ∷ []) it.2 ∙ ap (λ n. Int (pos n) ∷ []) same)

  abbrev pub g : Row
  g = params p v ++ Int (pos p) ∷ shown votes new

  pick : {X Y : Type 0} (f : X → Y) (b : Bool) (x : X) (rest : List Y) (tail : List X) → rest ≡ map f tail → cond (b && true) (f x ∷ []) [] ++ rest ≡ map f (cond b (x ∷ tail) tail)
  pick f true x rest tail h = ap (λ ys. f x ∷ ys) h
  pick f false x rest tail h = h

  matched : (db : Trees) (fs : List Entry) → flat_map (λ r. matches (overlay db []) upsert_query.filter end (g ∷ r ∷ [])) (map vote_row fs) ≡ map (λ e. g ∷ vote_row e ∷ []) (at_place p fs)
  unfolding at_place
  matched db [] = refl
  matched db (e ∷ fs) = rw (sql_test e.position p) (pick (λ (e : Entry). g ∷ vote_row e ∷ []) (e.position == p) e _ (at_place p fs) (matched db fs))

  -- the query of the update shows the one row
  abbrev pub changed : Row
  changed = Int (pos p) ∷ new

  pub answers : (db : Trees) (e : Entry) (rows : List Row) → db 1 ≡ map vote_row es → Has es e → e.position ≡ p → IsAnswer upsert_query (overlay db []) g rows → rows ≡ changed ∷ []
  answers db e rows is has same a =
      let staged : a.staged ≡ (g ∷ vote_row e ∷ []) ∷ [] =
      a.grouped ∙ ap (λ rs. flat_map (λ r. matches (overlay db []) upsert_query.filter end (g ∷ r ∷ [])) rs) is ∙ matched db es ∙ ap (map (λ (e : Entry). g ∷ vote_row e ∷ [])) (one_at p es e once has same) in
      let out : Output = ([], changed) in
      let shows : output upsert_query (g ∷ vote_row e ∷ []) ≡ out = ap (λ n. ([], Int (pos n) ∷ Int (pos n) ∷ Null ∷ Int (pos v.ballot.round) ∷ Int (pos v.ballot.member) ∷ Blob (value_spelling v.value) ∷ [])) same in
      let kept : a.kept ≡ out ∷ [] = a.distinct ∙ ap (map (output upsert_query)) staged ∙ ap (λ (o : Output). o ∷ []) shows in
      let ordered = one_permutation out a.ordered (subst (λ k. IsPermutation k a.ordered) kept a.same) in
      a.shown ∙ ap (λ xs. page upsert_query g (map (λ (p : Output). p.1) xs)) ordered

  module _ (limit : Option ℕ) (keys : Keys) (db : Trees) (is : db 1 ≡ map vote_row es) where
    abbrev Made : Written → Type 0
    Made w = (w.trees 1 ≡ map vote_row (with_vote p v (without p es))) × (w.trees 0 ≡ db 0) × (w.trees 2 ≡ db 2)

    put : times p es ≡ 0 → (w : Written) → Puts (task p v limit keys db) new db (Ok w) → Made w
    put none w h = let it = put_in p v limit keys db w h in (it.0 ∙ ap (put_row new) is ∙ puts p v es ∙ ap (λ fs. map vote_row (with_vote p v fs)) (sym (all_without p es none)), it.1, it.2)

    cleared : times p es ≡ 0 → (found : List Row) (w : Written) → Clears (task p v limit keys db) Abort new db found (Ok w) → Made w
    cleared none [] w h = put none w h
    cleared none (x ∷ more) w h = put none w h

    -- no row conflicts
    pub nothing_there : AreConflicts (Some (0 ∷ [])) [] votes (db 1) new [] → (x : Entry) → Has es x → x.position ≢ p
    nothing_there h x has same =
        let clash : conflicts (Some (0 ∷ [])) [] votes new (vote_row x) ≡ true = conflict_test x ∙ ap (λ b. (b && true) || false) (equal x.position p same) in
        absurd (h.complete (vote_row x) (subst (λ rs. Has rs (vote_row x)) (sym is) (in_map es x has)) clash)

    replaced : (e : Entry) (there : Row) (w : Written) → Has es e → e.position ≡ p → there ≡ Int (pos p) ∷ []
        → Updates (task p v limit keys db) (record { lets = []; body = upsert_query }) (params p v ++ rowid there ∷ shown votes new) db (Ok w) → Made w
    replaced e there w has same is_there h =
        let it = updated p v limit keys db (Int (pos p) ∷ []) w (subst (λ t. Updates (task p v limit keys db) (record { lets = []; body = upsert_query }) (params p v ++ rowid t ∷ shown votes new) db (Ok w)) is_there h) in
        let rows : it.0 ≡ changed ∷ [] = answers db e it.0 is has same it.1 in (
          it.2 ∙ ap (λ rs. edited db (edit_of db votes (ids_of rs) Given 1 rs)) rows ∙ ap (λ r. put_row r (without_rowid (pos p) (db 1))) (casts p v)
              ∙ ap (λ rs. put_row new (without_rowid (pos p) rs)) is ∙ ap (put_row new) (leaves p es) ∙ puts p v (without p es),
          it.3,
          it.4,
        )

    met : (found : List Row) (w : Written) → AreConflicts (Some (0 ∷ [])) [] votes (db 1) new found
        → Meets (task p v limit keys db) (Upserts (task p v limit keys db) Abort new db []) new db (clause p v limit keys db) found (Ok w) → Made w
    met [] w found h = cleared (none_at p es (nothing_there found)) h.0 w h.2
    met (there ∷ more) w found h = let it = meets db there more is found in replaced it.0 there w it.1 it.2 it.3 h

    pub upserted : (w : Written) → Upserts (task p v limit keys db) Abort new db (clause p v limit keys db ∷ []) (Ok w) → Made w
    upserted w h = met h.0 w h.1 h.2
