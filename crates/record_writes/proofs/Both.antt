use Rattle.std.specs.Prelude.{IfErr}
use Rattle.sqlite.specs.Store.{Ghosts}
use Rattle.sqlite.specs.Held.{Held, state}
-- A transaction of the statements of votes and of learnt values.
use Rattle.std.proofs.Common.{◌≡◌, ◌≤◌, ◌⊎◌, inl, inr, ℕ, suc, [], length, true, false, IsTrue, Option, None, Ok, Err, Result, OnOk, refl, sym, ap, subst, ◌∙◌, ⊎_elim}
use Rattle.sqlite.specs.declared.error.Error.{Error}
use Rattle.sqlite.specs.Tree.{Trees}
use Rattle.sqlite.specs.Effect.{Database}
use Rattle.sqlite.specs.Does.{Does, Tally}
use Rattle.sqlite.specs.declared.run.Mode.{Mode}
use Rattle.sqlite.specs.Command.TheVariants.{Update}
use Rattle.sqlite.specs.Steps.{FailsToCommit}
use Rattle.sqlite.specs.State.{State, HasCleanDisk, Survives, Shows, IsRolledBack, ExecutesInside, Executes, mode_of}
use Rattle.sqlite.proofs.Callers.{runs_as, statement_of}
use Rattle.sqlite.specs.Listing.{understood}
use Rattle.record_tables.specs.declared.version.Version.TheVariants.{Second}
use Rattle.ballots.specs.Ballot.{IsBallotOf, below}
use Rattle.ballots.specs.Values.{positions}
use Rattle.ballots.specs.Terms.{Setup}
use Rattle.paxos.specs.Records.{Record, NewPromise, NewVote, NewLearnt, written}
use Rattle.ballots.specs.declared.ballot.Ballot.{Ballot}
use Rattle.ballots.specs.declared.value.Value.{Value}
use Rattle.ballots.specs.declared.value.Vote.{Vote}
use Rattle.record_tables.specs.Texts.{schema, keep_text, promise_text, vote_text}
use Rattle.record_writes.specs.Stored.{IsStored}
use Rattle.record_writes.specs.Holds.{Ended, Holds, Under, Sees, Written}
use Rattle.record_writes.proofs.Means.{promise_query, promise_is, promise_plain, vote_command, vote_is, vote_plain, keep_command, keep_is, keep_plain}
use Rattle.ballots.specs.Spelling.{IsValue}
use Rattle.record_writes.proofs.Stores.{voted}
use Rattle.record_writes.proofs.Upserted.{params, votes_does, upserted}
use Rattle.record_writes.proofs.Holding.{SettledAt, StaysAt, learnt_step, promise_params, promise_step}
use Rattle.record_writes.proofs.Inserted.{keep_params}

vote_step : (o : Setup) (k : Record) (b : Ballot) (p : ℕ) (v : Value) (limit : Option ℕ) (mode : Mode) (db after : Database) (tally : Tally) → db.schema ≡ schema → IsStored Second o db.trees (written (NewPromise b) k) → 1 ≤ p → p ≤ positions → IsBallotOf o.members b → IsValue v
    → Does limit mode (params p (record { ballot = b; value = v })) db [] None vote_command (Ok (tally, after))
    → (after.schema ≡ schema) × IsStored Second o after.trees (written (NewVote p (record { ballot = b; value = v })) k)
vote_step o k b p v limit mode db after tally known it least most ballot good h =
    let vote : Vote = record { ballot = b; value = v } in
    let got = votes_does p vote limit mode [] db after tally known
    (subst (λ s. Does limit mode (params p vote) (record db { schema = s }) [] None vote_command (Ok (tally, after))) known h) in
    let made = upserted p vote it.rows (it.once p) limit mode.keys db.trees it.votes got.1 got.2 in
    (got.0, voted o k p vote db.trees after.trees it (ap (λ (t : Trees). t 0) got.3 ∙ made.1) (ap (λ (t : Trees). t 1) got.3 ∙ made.0) (ap (λ (t : Trees). t 2) got.3 ∙ made.2) least most ballot good)

module _ (old new : State) (o : Setup) (last : Record) where
  -- a refusal or a failure inside
  pub under_ended : Under old o last → Ended old new → HasCleanDisk new → Survives old new (λ _. ⊥) → Under new o last
  under_ended u end clean s = record {
    crash = λ db left. ⊎_elim (u.crash db) (λ none. absurd none) (s.crash clean db left);
    known = λ up. ap (λ (d : Database). d.schema) (same end up) ∙ u.known (was end up);
    stored = λ up. subst (λ (d : Database). IsStored Second o d.trees last) (sym (same end up)) (u.stored (was end up));
  }
    where
      was : Ended old new → IsTrue new.is_open → IsTrue old.is_open
      was (inl e) up = e.0.was_open
      was (inr r) up = r.was_open up

      same : Ended old new → IsTrue new.is_open → new.committed ≡ old.committed
      same (inl e) up = e.0.committed_is
      same (inr r) up = (r.undone up).1

  -- a rollback
  pub under_rolled : Under old o last → IsRolledBack old new → HasCleanDisk new → Survives old new (λ _. ⊥) → Holds new o last last
  under_rolled u r clean s = record {
    crash = λ db left. ⊎_elim (λ was. inl (u.crash db was)) (λ none. absurd none) (s.crash clean db left);
    known = λ up. ap (λ (d : Database). d.schema) (r.undone up).0 ∙ u.known (r.was_open up);
    settled = λ up. (r.undone up).0 ∙ sym (r.undone up).1;
    mode = r.autocommit;
  }

  -- a write inside that went well
  shown_under : Under old o last → Shows old new new.now old.committed true → HasCleanDisk new → Survives old new (λ _. ⊥) → Under new o last
  shown_under u w clean s = record {
    crash = λ db left. ⊎_elim (u.crash db) (λ none. absurd none) (s.crash clean db left);
    known = λ up. ap (λ (d : Database). d.schema) w.committed_is ∙ u.known w.was_open;
    stored = λ up. subst (λ (d : Database). IsStored Second o d.trees last) (sym w.committed_is) (u.stored w.was_open);
  }

  pub promise_inside : (now : Record) (b : Ballot) (count : ℕ) → IsBallotOf o.members b → below b now.promise ≡ false → Sees old o now → ExecutesInside 0 promise_text (promise_params b) old new (Ok count) → Sees new o (written (NewPromise b) now)
  promise_inside now b count good over see ran =
      let w = runs_as promise_text (promise_params b) old new schema see.known (Update 0 (record { lets = []; body = promise_query })) promise_is promise_plain count ran.0 in
      let got = promise_step o now b old.step_limit (mode_of old) (statement_of promise_text (understood schema promise_text)) old.now new.now w.tally see.known good over see.stored w.changed in
      record { is_open = ran.1.is_open; known = got.0; stored = got.1; mode = ran.1.mode }

  pub vote_inside : (now : Record) (b : Ballot) (p : ℕ) (v : Value) (count : ℕ) → 1 ≤ p → p ≤ positions → IsBallotOf o.members b → IsValue v → Sees old o (written (NewPromise b) now)
      → ExecutesInside 0 vote_text (params p (record { ballot = b; value = v })) old new (Ok count) → Sees new o (written (NewVote p (record { ballot = b; value = v })) now)
  vote_inside now b p v count least most ballot good see ran =
      let w = runs_as vote_text (params p (record { ballot = b; value = v })) old new schema see.known vote_command vote_is vote_plain count ran.0 in
      let got = vote_step o now b p v old.step_limit (mode_of old) old.now new.now w.tally see.known see.stored least most ballot good w.changed in
      record { is_open = ran.1.is_open; known = got.0; stored = got.1; mode = ran.1.mode }

  pub learnt_inside : (now : Record) (p : ℕ) (v : Value) (count : ℕ) → p ≡ suc (length now.learnt) → p ≤ positions → IsValue v → Sees old o now → ExecutesInside 0 keep_text (keep_params p v) old new (Ok count) → Sees new o (written (NewLearnt v) now)
  learnt_inside now p v count next most good see ran =
      let w = runs_as keep_text (keep_params p v) old new schema see.known keep_command keep_is keep_plain count ran.0 in
      let got = learnt_step o now p v old.step_limit (mode_of old) (statement_of keep_text (understood schema keep_text)) old.now new.now w.tally see.known next most good see.stored w.changed in
      record { is_open = ran.1.is_open; known = got.0; stored = got.1; mode = ran.1.mode }

  -- the commit
  pub committed : (next : Record) → Sees old o next → Shows old new old.now old.now false → SettledAt new → Holds new o next next
  committed next see w settled = record {
    crash = λ db left. inl (subst (λ t. IsStored Second o t next) (sym (settled w.is_open db left ∙ ap (λ (d : Database). d.trees) w.committed_is)) see.stored);
    known = λ up. ap (λ (d : Database). d.schema) w.now_is ∙ see.known;
    settled = λ up. w.now_is ∙ sym w.committed_is;
    mode = w.mode;
  }

  pub not_committed : (next : Record) (e : Error) → Under old o last → Sees old o next → FailsToCommit old new e → HasCleanDisk new → Survives old new (λ db. db ≡ old.now.trees) → Holds new o last next
  not_committed next e u see (inl f) clean s = record {
    crash = λ db left. ⊎_elim (λ was. inl (u.crash db was)) (λ same. inr (subst (λ t. IsStored Second o t next) (sym same) see.stored)) (s.crash clean db left);
    known = λ up. ap (λ (d : Database). d.schema) (f.3.undone up).0 ∙ u.known (f.3.was_open up);
    settled = λ up. (f.3.undone up).0 ∙ sym (f.3.undone up).1;
    mode = f.3.autocommit;
  }
  not_committed next e u see (inr f) clean s = absurd (let yes = see.mode in let no = f.1 in cc)

  pub promise_ran : (now : Record) (b : Ballot) (r : Result ℕ Error) → IsBallotOf o.members b → below b now.promise ≡ false → Under old o last → Sees old o now → HasCleanDisk new → Survives old new (λ _. ⊥) → ExecutesInside 0 promise_text (promise_params b) old new r
      → Under new o last × OnOk r (Sees new o (written (NewPromise b) now))
  promise_ran now b (Ok n) good over u see clean s ran = (shown_under u ran.1 clean s, promise_inside now b n good over see ran)
  promise_ran now b (Err e) good over u see clean s ran = (under_ended u (⊎_elim (λ (h : Executes promise_text (promise_params b) old new (Err e) × Ended old new). h.1) (λ h. inl h.2) ran) clean s, tt)

  pub vote_ran : (now : Record) (b : Ballot) (p : ℕ) (v : Value) (r : Result ℕ Error) → 1 ≤ p → p ≤ positions → IsBallotOf o.members b → IsValue v → Under old o last → Sees old o (written (NewPromise b) now) → HasCleanDisk new → Survives old new (λ _. ⊥)
      → ExecutesInside 0 vote_text (params p (record { ballot = b; value = v })) old new r → Under new o last × OnOk r (Sees new o (written (NewVote p (record { ballot = b; value = v })) now))
  vote_ran now b p v (Ok n) least most ballot good u see clean s ran = (shown_under u ran.1 clean s, vote_inside now b p v n least most ballot good see ran)
  vote_ran now b p v (Err e) least most ballot good u see clean s ran = (under_ended u (⊎_elim (λ (h : Executes vote_text (params p (record { ballot = b; value = v })) old new (Err e) × Ended old new). h.1) (λ h. inl h.2) ran) clean s, tt)

  pub learnt_ran : (now : Record) (p : ℕ) (v : Value) (r : Result ℕ Error) → p ≡ suc (length now.learnt) → p ≤ positions → IsValue v → Under old o last → Sees old o now → HasCleanDisk new → Survives old new (λ _. ⊥) → ExecutesInside 0 keep_text (keep_params p v) old new r
      → Under new o last × OnOk r (Sees new o (written (NewLearnt v) now))
  learnt_ran now p v (Ok n) next most good u see clean s ran = (shown_under u ran.1 clean s, learnt_inside now p v n next most good see ran)
  learnt_ran now p v (Err e) next most good u see clean s ran = (under_ended u (⊎_elim (λ (h : Executes keep_text (keep_params p v) old new (Err e) × Ended old new). h.1) (λ h. inl h.2) ran) clean s, tt)

  -- the commit, whether it went well or not
  pub commit_ran : (next : Record) (r : Result (Unit {0}) Error) → Under old o last → Sees old o next → HasCleanDisk new → SettledAt new → OnOk r (Shows old new old.now old.now false)
      → IfErr r (FailsToCommit old new) → Survives old new (λ db. db ≡ old.now.trees) → Written new o last next r
  commit_ran next (Ok t) u see clean settled ok err s = committed next see ok settled
  commit_ran next (Err e) u see clean settled ok err s = (not_committed next e u see err clean s, λ up. undone up err)
    where
      undone : IsTrue new.is_open → FailsToCommit old new e → Holds new o last last
      undone up (inl f) = record {
        crash = λ db left. inl (subst (λ t. IsStored Second o t last) (sym (settled up db left ∙ ap (λ (d : Database). d.trees) (f.3.undone up).1)) (u.stored (f.3.was_open up)));
        known = λ up. ap (λ (d : Database). d.schema) (f.3.undone up).0 ∙ u.known (f.3.was_open up);
        settled = λ up. (f.3.undone up).0 ∙ sym (f.3.undone up).1;
        mode = f.3.autocommit;
      }
      undone up (inr f) = absurd (let yes = see.mode in let no = f.1 in cc)

-- a transaction is begun
pub begun : {S : Type 0} (g : Ghosts S) (h : Held S) (o : Setup) (last : Record) → Holds (state g h) o last last → IsTrue (state g h).is_open → StaysAt (state g h)
    → Under (state g (record h { in_transaction = true })) o last × Sees (state g (record h { in_transaction = true })) o last
begun g h o last it up stays =
    let one : (db : Trees) → IsStored Second o db last ⊎ IsStored Second o db last → IsStored Second o db last = λ db e. ⊎_elim (λ a. a) (λ a. a) e in
    let kept : IsStored Second o (state g h).committed.trees last = one _ (it.crash _ (stays up)) in (
      record { crash = λ db left. one db (it.crash db left); known = λ _. ap (λ (d : Database). d.schema) (sym (it.settled up)) ∙ it.known up; stored = λ _. kept },
      record { is_open = up; known = it.known up; stored = subst (λ (d : Database). IsStored Second o d.trees last) (sym (it.settled up)) kept; mode = refl },
    )
