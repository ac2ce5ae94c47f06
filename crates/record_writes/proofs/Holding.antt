-- What the calls of a connection leave of a record.
use Rattle.std.proofs.Common.{◌≡◌, ◌⊎◌, ◌≤◌, inl, inr, ℕ, suc, pos, List, [], ◌∷◌, length, false, IsTrue, Option, None, Ok, Err, Result, sym, ap, subst, subst₂, ◌∙◌, append-nil, ⊎_elim, IfOk}
use Rattle.std.specs.Prelude.{IfErr}
use Rattle.std.proofs.lemmas.Bool.{cases_Bool}
use Rattle.sqlite.specs.declared.types.Value.TheVariants.{Int}
use Rattle.sqlite.specs.declared.error.Error.{Error}
use Rattle.sqlite.specs.Order.{Row}
use Rattle.sqlite.specs.Tree.{Trees}
use Rattle.sqlite.specs.Effect.{Database}
use Rattle.sqlite.specs.Does.{Does, Tally}
use Rattle.sqlite.specs.Command.TheVariants.{Update, Commit, Release}
use Rattle.sqlite.specs.Command.{Command}
use Rattle.sqlite.specs.declared.run.Mode.{Mode}
use Rattle.sqlite_trees.specs.Tree.{put_row}
use Rattle.sqlite.specs.Listing.{understood}
use Rattle.sqlite.specs.State.{State, HasCleanDisk, Survives, IsUnchanged, IsNotRun, ExecutesIn, Executes, CommitsBy, MayCommit, Writes, mode_of, shows_rows, text_of}
use Rattle.sqlite.proofs.Callers.{IsPlain, command_of, statement_of, runs_as}
use Rattle.ballots.specs.Ballot.{IsBallotOf, below}
use Rattle.ballots.specs.Terms.{Setup}
use Rattle.paxos.specs.Records.{Record, NewPromise, NewLearnt, written}
use Rattle.ballots.specs.Values.{positions}
use Rattle.ballots.specs.Spelling.{IsValue}
use Rattle.ballots.specs.declared.value.Value.{Value}
use Rattle.record_tables.specs.declared.version.Version.TheVariants.{Second}
use Rattle.ballots.specs.declared.ballot.Ballot.{Ballot}
use Rattle.record_tables.specs.Texts.{schema, promise_text, keep_text}
use Rattle.record_writes.specs.Stored.{IsStored, learnt_row}
use Rattle.record_writes.specs.Holds.{Holds, Written, Ended}
use Rattle.record_writes.proofs.Means.{promise_query, promise_is, promise_plain, keep_command, keep_is, keep_plain}
use Rattle.record_writes.proofs.Stores.{promised, kept_next}
use Rattle.record_writes.proofs.Update.{promises}
use Rattle.record_writes.proofs.Inserted.{keep_params, keeps}

-- the two laws of a store, at a connection's state
abbrev pub SettledAt : State → Type 0
SettledAt s = IsTrue s.is_open → (db : Trees) → s.may_leave db → db ≡ s.committed.trees

abbrev pub StaysAt : State → Type 0
StaysAt s = IsTrue s.is_open → s.may_leave s.committed.trees

pub holds_weaker : (s : State) (o : Setup) (a b : Record) → Holds s o a a → Holds s o a b
holds_weaker s o a b h = record { crash = λ db left. ⊎_elim inl inl (h.crash db left); known = h.known; settled = h.settled; mode = h.mode }

abbrev pub promise_params : Ballot → Row
promise_params b = Int (pos b.round) ∷ Int (pos b.member) ∷ []

-- what the UPDATE of a promise makes of a record
pub promise_step : (o : Setup) (k : Record) (b : Ballot) (limit : Option ℕ) (mode : Mode) (text : List ℕ) (db after : Database) (tally : Tally) → db.schema ≡ schema → IsBallotOf o.members b → below b k.promise ≡ false → IsStored Second o db.trees k
    → Does limit mode (promise_params b) db text None (Update 0 (record { lets = []; body = promise_query })) (Ok (tally, after)) → (after.schema ≡ schema) × IsStored Second o after.trees (written (NewPromise b) k)
promise_step o k b limit mode text db after tally known good over it h =
    let got = promises o k.promise.round k.promise.member b.round b.member limit mode text db after tally known it.meta
    (subst (λ s. Does limit mode (promise_params b) (record db { schema = s }) text None (Update 0 (record { lets = []; body = promise_query })) (Ok (tally, after))) known h) in
    (got.0, promised o k b db.trees after.trees got.1 got.2 got.3 good over it)

-- what the INSERT of a learnt value makes of a record
pub learnt_step : (o : Setup) (k : Record) (p : ℕ) (v : Value) (limit : Option ℕ) (mode : Mode) (text : List ℕ) (db after : Database) (tally : Tally) → db.schema ≡ schema → p ≡ suc (length k.learnt) → p ≤ positions → IsValue v → IsStored Second o db.trees k
    → Does limit mode (keep_params p v) db text None keep_command (Ok (tally, after)) → (after.schema ≡ schema) × IsStored Second o after.trees (written (NewLearnt v) k)
learnt_step o k p v limit mode text db after tally known next most good it h =
    let got = keeps p v limit mode text db after tally known (subst (λ s. Does limit mode (keep_params p v) (record db { schema = s }) text None keep_command (Ok (tally, after))) known h) in
    (got.0, kept_next o k v db.trees after.trees got.2 got.3 (got.1 ∙ ap (λ n. put_row (learnt_row n v) (db.trees 2)) next) (subst (λ n. n ≤ positions) next most) good it)

-- what the tables of an open connection hold
pub holds_stored : (s : State) (o : Setup) (k : Record) → Holds s o k k → IsTrue s.is_open → StaysAt s → IsStored Second o s.now.trees k
holds_stored s o k h up stays = subst (λ (d : Database). IsStored Second o d.trees k) (sym (h.settled up)) (⊎_elim (λ it. it) (λ it. it) (h.crash _ (stays up)))

-- it ends no transaction
abbrev EndsNothing : Command → Type 0
EndsNothing command = ¬ (command ≡ Commit) × ((name : List ℕ) → ¬ (command ≡ Release name))

module _ (old new : State) where
  pub not_run : (sql : List ℕ) (params : Row) (e : Error) → IsNotRun old new sql params e → Ended old new
  unfolding IsNotRun
  not_run sql params e (inl h) = inl h.1
  not_run sql params e (inr h) = inr h.3

  -- a statement that fails changes nothing, or rolls back
  pub after_err : (sql : List ℕ) (params : Row) (e : Error) → Executes sql params old new (Err e) → Ended old new
  unfolding ExecutesIn
  after_err sql params e (inl h) = not_run sql params e h
  after_err sql params e (inr h) = elim (cases_Bool (shows_rows false h.0)) [
    | inl shows ↦ inl (rw shows at h.2).1
    | inr runs ↦ ⊎_elim (λ u. inl u.1) (λ f. inr f.3) (rw runs at h.2)
  ]

  pub prepared : {X : Type 0} (P : X → Type 0) (sql : List ℕ) (r : Result X Error) → IfOk r (λ s. P s × IsUnchanged old new) → IfErr r (λ e. (params : Row) → IsNotRun old new sql params e) → Ended old new
  prepared P sql (Ok s) ok err = inl ok.1
  prepared P sql (Err e) ok err = not_run sql [] e (err [])

  pub was_open : Ended old new → IsTrue new.is_open → IsTrue old.is_open
  was_open (inl u) up = u.0.was_open
  was_open (inr r) up = r.was_open up

  module _ (o : Setup) (a b : Record) (h : Holds old o a b) where
    pub now_is : Ended old new → IsTrue new.is_open → new.now ≡ old.now
    now_is (inl u) up = u.0.now_is
    now_is (inr r) up = (r.undone up).0 ∙ sym (h.settled (r.was_open up))

    pub committed_is : Ended old new → IsTrue new.is_open → new.committed ≡ old.committed
    committed_is (inl u) up = u.0.committed_is
    committed_is (inr r) up = (r.undone up).1

    mode_is : Ended old new → new.in_transaction ≡ false
    mode_is (inl u) = u.0.mode ∙ h.mode
    mode_is (inr r) = r.autocommit

    -- what is known but for the crash
    pub ended : (c d : Record) → Ended old new → ((db : Trees) → new.may_leave db → IsStored Second o db c ⊎ IsStored Second o db d) → Holds new o c d
    ended c d end crash = record {
      crash = crash;
      known = λ up. ap (λ (x : Database). x.schema) (now_is end up) ∙ h.known (was_open end up);
      settled = λ up. now_is end up ∙ h.settled (was_open end up) ∙ sym (committed_is end up);
      mode = mode_is end;
    }

    pub schema_is : Ended old new → IsTrue new.is_open → new.now.schema ≡ schema
    schema_is end up = ap (λ (x : Database). x.schema) (now_is end up) ∙ h.known (was_open end up)

    pub quiet : Ended old new → HasCleanDisk new → Survives old new (λ _. ⊥) → Holds new o a b
    quiet end clean s = ended a b end (λ db left. ⊎_elim (h.crash db) (λ none. absurd none) (s.crash clean db left))

  same : (o : Setup) (k : Record) (db : Trees) → IsStored Second o db k ⊎ IsStored Second o db k → IsStored Second o db k
  same o k db (inl it) = it
  same o k db (inr it) = it

  -- one statement, run by itself, that makes the next record of the last one
  module _ (o : Setup) (last next : Record) (sql : List ℕ) (params : Row) (command : Command) (is : command_of (understood schema sql) ≡ command) (plain : IsPlain (understood schema sql)) (stays_in : EndsNothing command)
      (makes : (limit : Option ℕ) (text : List ℕ) (db after : Database) (tally : Tally) → db.schema ≡ schema → IsStored Second o db.trees last → Does limit (mode_of old) params db text None command (Ok (tally, after)) → (after.schema ≡ schema) × IsStored Second o after.trees next)
      (h : Holds old o last last) (up : IsTrue old.is_open) (stays : StaysAt old) where
    stored : IsStored Second o old.now.trees last
    stored = holds_stored old o last h up stays

    does : (text : List ℕ) (tally : Tally) (after : Database) → Does old.step_limit (mode_of old) params old.now text None command (Ok (tally, after)) → (after.schema ≡ schema) × IsStored Second o after.trees next
    does text tally after did = makes old.step_limit text old.now after tally (h.known up) stored did

    ok : (count : ℕ) → SettledAt new → Writes old new None command (statement_of sql (understood schema sql)) params count → Holds new o next next
    ok count settled w =
        let got = does (statement_of sql (understood schema sql)) w.tally new.now w.changed in
        let kept : new.committed ≡ new.now = rw h.mode at w.shown.committed_is in
        record {
          crash = λ db left. inl (subst (λ t. IsStored Second o t next) (sym (settled w.shown.is_open db left ∙ ap (λ (d : Database). d.trees) kept)) got.1);
          known = λ _. got.0;
          settled = λ _. sym kept;
          mode = w.shown.mode ∙ h.mode;
        }

    -- what the statement may commit is the next record
    commits : (db : Trees) → CommitsBy sql params old db → IsStored Second o db next
    unfolding CommitsBy
    commits db it =
        let known = sym it.1.is ∙ ap (λ s. understood s sql) (h.known up) in
        let bare = subst IsPlain (sym known) plain in
        let may = subst₂ (λ k r. MayCommit old r k (text_of sql it.0) params db) (ap command_of known ∙ is) bare.0 (rw (bare.1, append-nil params) at it.2) in
        elim may [
          | inl ends ↦ absurd (elim ends.0 [ inl e ↦ stays_in.0 e | inr r ↦ stays_in.1 r.0 r.2 ])
          | inr write ↦ subst (λ t. IsStored Second o t next) (sym write.5) (does (text_of sql it.0) write.1 write.2 write.3).1
        ]

    failed : (e : Error) → HasCleanDisk new → Survives old new (CommitsBy sql params old) → Executes sql params old new (Err e) → Holds new o last next
    failed e clean s ex =
        ended o last last h last next (after_err sql params e ex)
        (λ db left. ⊎_elim (λ was. inl (same o last db (h.crash db was))) (λ made. inr (commits db made)) (s.crash clean db left))

    -- nothing was written where the connection is still open
    undone : (e : Error) → IsTrue new.is_open → SettledAt new → Executes sql params old new (Err e) → Holds new o last last
    undone e still settled ex =
        let end = after_err sql params e ex in
        ended o last last h last last end
        (λ db left. inl (subst (λ t. IsStored Second o t last) (sym (settled still db left ∙ ap (λ (d : Database). d.trees) (committed_is o last last h end still ∙ sym (h.settled up)))) stored))

    statement_written : ((count : ℕ) → Executes sql params old new (Ok count) → Writes old new None command (statement_of sql (understood schema sql)) params count) → (r : Result ℕ Error) → HasCleanDisk new → SettledAt new → Survives old new (CommitsBy sql params old)
        → Executes sql params old new r → Written new o last next r
    statement_written runs (Ok n) clean settled s ex = ok n settled (runs n ex)
    statement_written runs (Err e) clean settled s ex = (failed e clean s ex, λ still. undone e still settled ex)

  pub promise_written : (o : Setup) (last : Record) (b : Ballot) → IsBallotOf o.members b → below b last.promise ≡ false → Holds old o last last → IsTrue old.is_open → StaysAt old
      → (r : Result ℕ Error) → HasCleanDisk new → SettledAt new → Survives old new (CommitsBy promise_text (promise_params b) old) → Executes promise_text (promise_params b) old new r → Written new o last (written (NewPromise b) last) r
  promise_written o last b good over h up stays r clean settled s ex =
      statement_written o last (written (NewPromise b) last) promise_text (promise_params b) (Update 0 (record { lets = []; body = promise_query })) promise_is promise_plain ((λ e. absurd cc), λ name e. absurd cc)
      (λ limit text db after tally known it did. promise_step o last b limit (mode_of old) text db after tally known good over it did) h up stays
      (λ count ran. runs_as promise_text (promise_params b) old new schema (h.known up) (Update 0 (record { lets = []; body = promise_query })) promise_is promise_plain count ran) r clean settled s ex

  pub learnt_written : (o : Setup) (last : Record) (p : ℕ) (v : Value) → p ≡ suc (length last.learnt) → p ≤ positions → IsValue v → Holds old o last last → IsTrue old.is_open → StaysAt old
      → (r : Result ℕ Error) → HasCleanDisk new → SettledAt new → Survives old new (CommitsBy keep_text (keep_params p v) old) → Executes keep_text (keep_params p v) old new r → Written new o last (written (NewLearnt v) last) r
  learnt_written o last p v next most good h up stays r clean settled s ex =
      statement_written o last (written (NewLearnt v) last) keep_text (keep_params p v) keep_command keep_is keep_plain ((λ e. absurd cc), λ name e. absurd cc)
      (λ limit text db after tally known it did. learnt_step o last p v limit (mode_of old) text db after tally known next most good it did) h up stays
      (λ count ran. runs_as keep_text (keep_params p v) old new schema (h.known up) keep_command keep_is keep_plain count ran) r clean settled s ex
