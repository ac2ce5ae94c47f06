use Rattle.std.proofs.Common.{◌≡◌, ◌+◌, suc, length, length-append, [], ◌∷◌, ◌++◌, Some, None, map, refl, sym, ap, subst, ◌∙◌, rules, arith}
use Rattle.std.specs.Prelude.{option_copied, IfErr}
use Rattle.sqlite.specs.Effect.{Database}
use Rattle.sqlite.specs.Listing.{understood}
use Rattle.sqlite.specs.State.{HasCleanDisk, FailsToQuery, Shown, Survives, CommitsShowing}
use Rattle.sqlite.specs.Held.{state}
use Rattle.sqlite.specs.Given.{Advances, row_if}
use Rattle.sqlite.proofs.StateLemmas.{survives_then}
use Rattle.sqlite.proofs.Callers.{IsPlain, begun_plain, given_begin, unchanged_then}
use Rattle.paxos.specs.Records.{Record}
use Rattle.std.specs.List.Sorted.{IsPermutation}
use Rattle.record_writes.specs.Stored.{AreKept}
use Rattle.sql_records.specs.Reading.{AreLearnt, ShowsLearnt, ShowsNotNext, learnt_shown}
use Rattle.record_tables.specs.Texts.{schema, learnt_load_text}
use Rattle.sql_records.proofs.Means.{learnt_plain}
use Rattle.record_writes.specs.Faults.{StoreFailed}
use Rattle.record_writes.proofs.Failing.{since}
use Rattle.sql_records.proofs.StoreFaults.{learnt_failed}
use Rattle.sql_records.proofs.Queried.{fails_ended, query_commits_nothing, was_clean, learnt_queried}
use Rattle.sql_records.proofs.Read.{learnt_more, too_many}
use Rattle.sql_records.proofs.Loaded.{kept_loaded}
use Rattle.sql_records.proofs.Kept.{refuses_kept}
use Rattle.ballots.specs.Values.{positions}
use Rattle.sql_records.proofs.learnt.load_learnt.Goals as goal

pub returns-in-Err-clause-ended : goal.returns-in-Err-clause-ended
returns-in-Err-clause-ended g c clean =
    let old = state g.S.Store c.args.connection.now in
    let new = state g.S.Store c.query.follows.lender-at-none in
    let held = c.query.follows.holds-at-none in
    let kept : Survives old new (CommitsShowing learnt_load_text [] old) = search rules in
    let refused : IfErr c.query.result (FailsToQuery learnt_load_text [] old new) = search rules in
    let failed : FailsToQuery learnt_load_text [] old new c.in-Err.error = rw c.in-Err.is at refused in
    fails_ended old new learnt_load_text (c.requires.schema (was_clean old new _ kept clean)) learnt_plain c.in-Err.error failed

pub returns-in-Err-clause-survives : goal.returns-in-Err-clause-survives
returns-in-Err-clause-survives g c =
    let old = state g.S.Store c.args.connection.now in
    let new = state g.S.Store c.query.follows.lender-at-none in
    let held = c.query.follows.holds-at-none in
    let kept : Survives old new (CommitsShowing learnt_load_text [] old) = search rules in
    query_commits_nothing old new learnt_load_text (λ clean. subst (λ s. IsPlain (understood s learnt_load_text)) (sym (c.requires.schema clean)) learnt_plain) kept

pub learnt-init : goal.learnt-init
learnt-init g c =
    let old = state g.S.Store c.args.connection.now in
    let new = state g.S.Store c.in-Ok.rows.conn.now in
    let made = c.in-Ok.ensures in
    let none = c.requires.none in (
      refl,
      query_commits_nothing old new learnt_load_text (λ clean. subst (λ s. IsPlain (understood s learnt_load_text)) (sym (c.requires.schema clean)) learnt_plain) made.survives,
      omega arith,
      (let zero : length c.args.found.learnt ≡ 0 = ap length none in omega (arith, zero)),
      refl,
      refl,
      λ clean.
          let plain : IsPlain (understood c.args.connection.now.schema learnt_load_text) = subst (λ s. IsPlain (understood s learnt_load_text)) (sym (c.requires.schema (was_clean old new _ made.survives clean))) learnt_plain in
          let begun = begun_plain g.S.Store learnt_load_text [] c.args.connection.now c.in-Ok.rows.conn.now plain (made.begun clean) in
          ([], begun.0, begun.1, subst (AreLearnt 1 []) (sym none) tt),
    )

pub returns-in_default-get-clause-kept : goal.returns-in_default-get-clause-kept
returns-in_default-get-clause-kept g c clean =
    let old = state g.S.Store c.args.connection.now in
    let before = c.learnt.rows.conn.now in
    let after = c.advance.new.self.conn.now in
    let same : after ≡ c.connection-in_default-get-1.given.0 = search rules in
    let late : HasCleanDisk (state g.S.Store after) = subst (λ h. HasCleanDisk (state g.S.Store h)) (sym same) clean in
    let mid : HasCleanDisk (state g.S.Store before) = omega (arith, c.advance.ensures.survives.clean) in
    let first : HasCleanDisk old = was_clean old (state g.S.Store before) _ c.learnt.invariant.1 mid in
    let it = c.learnt.invariant.6 mid in
    let none : row_if c.advance.new.self.has_row after ≡ None = sym c.get.ensures ∙ ap option_copied c.in_default-get.is in
    let shown : Shown learnt_load_text [] (state g.S.Store before) (state g.S.Store after) it.0 =
    subst (λ row. Advances g.S.Store before after row) none (c.in_default.ensures.ok late) learnt_load_text [] it.0 it.1 in
    let known : (state g.S.Store before).now.schema ≡ schema = ap (λ (d : Database). d.schema) it.2.0.now_is ∙ c.requires.schema first in
    let moved = learnt_queried (state g.S.Store before) (state g.S.Store after) known it.0 shown in
    kept_loaded old.now.trees (c.requires.sound first) it.0 c.learnt.record.learnt (subst (λ (d : Database). IsPermutation (map learnt_shown (d.trees 2)) it.0) it.2.0.now_is moved) it.3 c.learnt.invariant.3

pub learnt-preserved : goal.learnt-preserved
learnt-preserved g c =
    let old = state g.S.Store c.args.connection.now in
    let before = c.learnt.rows.conn.now in
    let after = c.advance.new.self.conn.now in
    let inv = c.learnt.invariant in
    let added = c.in_ok-add_learnt.ensures.added in
    let row = c.in-Some.row.now in
    let vs = c.learnt.record.learnt in
    let values = ap (λ (r : Record). r.learnt) added.3 in
    let count = ap length values ∙ length-append vs (added.0 ∷ []) in (
      c.advance.ensures.same_reference ∙ inv.0,
      survives_then old (state g.S.Store before) (state g.S.Store after) _ _ (λ _. ⊥) (λ _ db none. none) (λ _ db none. none) inv.1 c.advance.ensures.survives,
      (let low = inv.2 in omega (arith, low, count)),
      (let most = added.2 in omega (arith, most, count)),
      ap (λ (r : Record). r.promise) added.3 ∙ inv.4,
      ap (λ (r : Record). r.votes) added.3 ∙ inv.5,
      λ late.
          let mid : HasCleanDisk (state g.S.Store before) = omega (arith, c.advance.ensures.survives.clean) in
          let it = inv.6 mid in
          let some : row_if c.advance.new.self.has_row after ≡ Some row = sym c.get.ensures ∙ ap option_copied c.in-Some.is in
          let given = subst (λ row. Advances g.S.Store before after row) some (c.in_default.ensures.ok late) learnt_load_text [] it.0 it.1 in
          (it.0 ++ row ∷ [], given, unchanged_then old (state g.S.Store before) (state g.S.Store after) it.2 (c.in_default.ensures.same late), subst (AreLearnt 1 (it.0 ++ row ∷ [])) (sym values) (learnt_more 1 it.0 row vs added.0 it.3 (subst (λ n. ShowsLearnt n row added.0) (let next : suc (length vs) ≡ 1 + length vs = omega arith in next) added.1))),
    )

pub returns-in_err-add_learnt-clause-damaged : goal.returns-in_err-add_learnt-clause-damaged
returns-in_err-add_learnt-clause-damaged g c clean damaged values are =
    let old = state g.S.Store c.args.connection.now in
    let before = c.learnt.rows.conn.now in
    let after = c.advance.new.self.conn.now in
    let row = c.in-Some.row.now in
    let inv = c.learnt.invariant in
    let same : after ≡ c.connection-in_err-add_learnt-1.given.0 = search rules in
    let refused : ShowsNotNext (suc (length c.learnt.record.learnt)) row = c.add_learnt.ensures.damaged (search rules) in
    let late : HasCleanDisk (state g.S.Store after) = subst (λ h. HasCleanDisk (state g.S.Store h)) (sym same) clean in
    let mid : HasCleanDisk (state g.S.Store before) = omega (arith, c.advance.ensures.survives.clean) in
    let it = inv.6 mid in
    let some : row_if c.advance.new.self.has_row after ≡ Some row = sym c.get.ensures ∙ ap option_copied c.in-Some.is in
    let given = subst (λ row. Advances g.S.Store before after row) some (c.in_default.ensures.ok late) learnt_load_text [] it.0 it.1 in
    let kept = unchanged_then old (state g.S.Store before) (state g.S.Store after) it.2 (c.in_default.ensures.same late) in
    let first : HasCleanDisk old = was_clean old (state g.S.Store before) _ inv.1 mid in
    refuses_kept (state g.S.Store after) (ap (λ (d : Database). d.schema) kept.0.now_is ∙ c.requires.schema first) values (subst (λ (d : Database). AreKept (d.trees 2) values) (sym kept.0.now_is) are)
    it.0 row c.learnt.record.learnt (given_begin g.S.Store learnt_load_text [] after (it.0 ++ row ∷ []) given) it.3 refused

pub returns-clause-damaged : goal.returns-clause-damaged
unfolding positions
returns-clause-damaged g c clean damaged values are = too_many c.learnt.counter (length c.learnt.record.learnt) (omega (arith, c.learnt-test.false, c.learnt.auto.counter-end)) c.learnt.invariant.2 c.learnt.invariant.3

pub returns-in-Err-clause-store : goal.returns-in-Err-clause-store
returns-in-Err-clause-store g c clean is =
    let old = state g.S.Store c.args.connection.now in
    let new = state g.S.Store c.query.follows.lender-at-none in
    let held = c.query.follows.holds-at-none in
    let kept : Survives old new (CommitsShowing learnt_load_text [] old) = search rules in
    let refused : IfErr c.query.result (FailsToQuery learnt_load_text [] old new) = search rules in
    let failed : FailsToQuery learnt_load_text [] old new c.in-Err.error = rw c.in-Err.is at refused in
    learnt_failed old new (c.requires.schema (was_clean old new _ kept clean)) c.in-Err.error failed (c.fault_of.ensures.store cc)

pub returns-in-Err-advance-clause-store : goal.returns-in-Err-advance-clause-store
returns-in-Err-advance-clause-store g c clean is =
    let other = c.fault_of-in-Err-advance.ensures.store cc in
    let old = state g.S.Store c.args.connection.now in
    let before = c.learnt.rows.conn.now in
    let after = c.advance.new.self.conn.now in
    let inv = c.learnt.invariant in
    let same : after ≡ c.connection-in-Err-advance-1.given.0 = search rules in
    let late : HasCleanDisk (state g.S.Store after) = subst (λ h. HasCleanDisk (state g.S.Store h)) (sym same) clean in
    let mid : HasCleanDisk (state g.S.Store before) = omega (arith, c.advance.ensures.survives.clean) in
    let it = inv.6 mid in
    let first : HasCleanDisk old = was_clean old (state g.S.Store before) _ inv.1 mid in
    let known : (state g.S.Store before).now.schema ≡ schema = ap (λ (d : Database). d.schema) it.2.0.now_is ∙ c.requires.schema first in
    let failed = learnt_failed (state g.S.Store before) (state g.S.Store after) known c.in-Err-advance.error (c.in-Err-advance.ensures.err late learnt_load_text [] it.0 it.1) other in
    subst (λ h. StoreFailed old (state g.S.Store h)) same (since old (state g.S.Store before) (state g.S.Store after) _ it.2 inv.1 failed)
