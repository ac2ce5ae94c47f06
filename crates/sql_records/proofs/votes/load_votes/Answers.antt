use Rattle.std.proofs.Common.{◌≡◌, ◌≤◌, ◌⊎◌, [], ◌∷◌, ◌++◌, Some, None, map, refl, sym, ap, subst, ◌∙◌, rules, arith}
use Rattle.std.specs.Prelude.{option_copied, IfErr}
use Rattle.sqlite.specs.Effect.{Database}
use Rattle.sqlite.specs.Listing.{understood}
use Rattle.sqlite.specs.State.{HasCleanDisk, FailsToQuery, Shown, Survives, CommitsShowing}
use Rattle.sqlite.specs.Held.{state}
use Rattle.sqlite.specs.Given.{Advances, row_if}
use Rattle.sqlite.proofs.StateLemmas.{survives_then}
use Rattle.sqlite.proofs.Callers.{IsPlain, begun_plain, given_begin, unchanged_then}
use Rattle.paxos.specs.Records.{Record}
use Rattle.std.specs.List.Sorted.{IsPermutation}
use Rattle.sql_records.specs.Reading.{AreShown, AreVotes, Shows, ShowsNoVote, vote_shown}
use Rattle.record_tables.specs.Texts.{votes_load_text}
use Rattle.record_tables.specs.Versions.{AreTables}
use Rattle.paxos.specs.WellFormed.{AreVotes as MayBeVotes}
use Rattle.sql_records.proofs.Means.{votes_plain}
use Rattle.record_writes.specs.Faults.{StoreFailed}
use Rattle.record_writes.proofs.Failing.{since}
use Rattle.sql_records.proofs.StoreFaults.{votes_failed}
use Rattle.sql_records.proofs.Queried.{votes_bare, fails_ended, query_commits_nothing, was_clean, votes_queried}
use Rattle.sql_records.proofs.Read.{UpTo, last_is, last_of, read_more, still_up_to, still_votes, too_many}
use Rattle.sql_records.proofs.Ordered.{refuses}
use Rattle.ballots.specs.Values.{positions}
use Rattle.ballots.specs.declared.value.Entry.{Entry}
use Rattle.sql_records.proofs.votes.load_votes.Goals as goal

pub returns-in-Err-clause-ended : goal.returns-in-Err-clause-ended
returns-in-Err-clause-ended g c clean =
    let old = state g.S.Store c.args.connection.now in
    let new = state g.S.Store c.query.follows.lender-at-none in
    let held = c.query.follows.holds-at-none in
    let kept : Survives old new (CommitsShowing votes_load_text [] old) = search rules in
    let refused : IfErr c.query.result (FailsToQuery votes_load_text [] old new) = search rules in
    let failed : FailsToQuery votes_load_text [] old new c.in-Err.error = rw c.in-Err.is at refused in
    let t = c.requires (was_clean old new _ kept clean) in
    fails_ended old new votes_load_text t.1 (votes_plain t.0) c.in-Err.error failed

pub returns-in-Err-clause-survives : goal.returns-in-Err-clause-survives
returns-in-Err-clause-survives g c =
    let old = state g.S.Store c.args.connection.now in
    let new = state g.S.Store c.query.follows.lender-at-none in
    let held = c.query.follows.holds-at-none in
    let kept : Survives old new (CommitsShowing votes_load_text [] old) = search rules in
    query_commits_nothing old new votes_load_text (λ clean. votes_bare old.now.schema (c.requires clean)) kept

pub votes-init : goal.votes-init
votes-init g c =
    let old = state g.S.Store c.args.connection.now in
    let new = state g.S.Store c.in-Ok.rows.conn.now in
    let made = c.in-Ok.ensures in (
      refl,
      query_commits_nothing old new votes_load_text (λ clean. votes_bare old.now.schema (c.requires clean)) made.survives,
      subst (λ (r : Record). UpTo 0 r.votes) (sym c.new-record.ensures) tt,
      subst (λ (r : Record). 0 ≡ last_of 0 r.votes) (sym c.new-record.ensures) refl,
      omega arith,
      omega arith,
      λ clean.
          let plain : IsPlain (understood c.args.connection.now.schema votes_load_text) = votes_bare old.now.schema (c.requires (was_clean old new _ made.survives clean)) in
          let begun = begun_plain g.S.Store votes_load_text [] c.args.connection.now c.in-Ok.rows.conn.now plain (made.begun clean) in
          ([], begun.0, begun.1, subst (λ (r : Record). AreShown c.args.members c.args.promise [] r.votes) (sym c.new-record.ensures) tt),
      subst (λ (r : Record). r.learnt ≡ []) (sym c.new-record.ensures) refl,
      subst (λ (r : Record). MayBeVotes c.args.members c.args.promise 1 positions r.votes) (sym c.new-record.ensures) tt,
    )

pub returns-in_default-get-clause-votes : goal.returns-in_default-get-clause-votes
returns-in_default-get-clause-votes g c clean =
    let old = state g.S.Store c.args.connection.now in
    let before = c.votes.rows.conn.now in
    let after = c.advance.new.self.conn.now in
    let same : after ≡ c.connection-in_default-get-1.given.0 = search rules in
    let late : HasCleanDisk (state g.S.Store after) = subst (λ h. HasCleanDisk (state g.S.Store h)) (sym same) clean in
    let mid : HasCleanDisk (state g.S.Store before) = omega (arith, c.advance.ensures.survives.clean) in
    let first : HasCleanDisk old = was_clean old (state g.S.Store before) _ c.votes.invariant.1 mid in
    let it = c.votes.invariant.6 mid in
    let none : row_if c.advance.new.self.has_row after ≡ None = sym c.get.ensures ∙ ap option_copied c.in_default-get.is in
    let shown : Shown votes_load_text [] (state g.S.Store before) (state g.S.Store after) it.0 =
    subst (λ row. Advances g.S.Store before after row) none (c.in_default.ensures.ok late) votes_load_text [] it.0 it.1 in
    let known : AreTables (state g.S.Store before).now.schema = subst (λ (d : Database). AreTables d.schema) (sym it.2.0.now_is) (c.requires first) in
    let moved = votes_queried (state g.S.Store before) (state g.S.Store after) known it.0 shown in
    (it.0, subst (λ (d : Database). IsPermutation (map vote_shown (d.trees 1)) it.0) it.2.0.now_is moved, subst (λ (r : Record). AreShown c.args.members c.args.promise it.0 r.votes) (sym c.set_promise.ensures) it.3)

pub returns-in_default-get-clause-sound : goal.returns-in_default-get-clause-sound
returns-in_default-get-clause-sound g c = subst (λ (r : Record). MayBeVotes c.args.members c.args.promise 1 positions r.votes) (sym c.set_promise.ensures) c.votes.invariant.8

pub votes-preserved : goal.votes-preserved
votes-preserved g c =
    let old = state g.S.Store c.args.connection.now in
    let before = c.votes.rows.conn.now in
    let after = c.advance.new.self.conn.now in
    let inv = c.votes.invariant in
    let added = c.in_ok-add_vote.ensures.added in
    let row = c.in-Some.row.now in
    let fs = c.add_vote.new.found.votes in (
      c.advance.ensures.same_reference ∙ inv.0,
      survives_then old (state g.S.Store before) (state g.S.Store after) _ _ (λ _. ⊥) (λ _ db none. none) (λ _ db none. none) inv.1 c.advance.ensures.survives,
      subst (λ n. UpTo n fs) (sym added.3) (still_up_to row c.votes.record.votes fs c.votes.last added.0 inv.2 added.2 added.4),
      added.3 ∙ sym (last_is row c.votes.record.votes fs c.votes.last added.0 inv.2 added.2 added.4),
      (let low = inv.4 in let more = added.2 in let is = added.3 in omega (arith, low, more, is)),
      subst (λ n. n ≤ positions) (sym added.3) added.1.stands.most,
      λ late.
          let mid : HasCleanDisk (state g.S.Store before) = omega (arith, c.advance.ensures.survives.clean) in
          let it = inv.6 mid in
          let some : row_if c.advance.new.self.has_row after ≡ Some row = sym c.get.ensures ∙ ap option_copied c.in-Some.is in
          let given = subst (λ row. Advances g.S.Store before after row) some (c.in_default.ensures.ok late) votes_load_text [] it.0 it.1 in
          (it.0 ++ row ∷ [], given, unchanged_then old (state g.S.Store before) (state g.S.Store after) it.2 (c.in_default.ensures.same late), read_more row c.votes.record.votes fs c.votes.last added.0 inv.2 added.2 added.4 c.args.members c.args.promise it.0 it.3 added.1),
      c.in_ok-add_vote.ensures.learnt ∙ inv.7,
      still_votes row c.votes.record.votes fs c.votes.last added.0 inv.2 added.2 added.4 c.args.members c.args.promise added.1.stands inv.8,
    )

pub returns-in_err-add_vote-clause-damaged : goal.returns-in_err-add_vote-clause-damaged
returns-in_err-add_vote-clause-damaged g c clean damaged votes are =
    let old = state g.S.Store c.args.connection.now in
    let before = c.votes.rows.conn.now in
    let after = c.advance.new.self.conn.now in
    let row = c.in-Some.row.now in
    let inv = c.votes.invariant in
    let same : after ≡ c.connection-in_err-add_vote-1.given.0 = search rules in
    let refused : ShowsNoVote c.args.members c.args.promise row ⊎ ((e : Entry) × Shows c.args.members c.args.promise row e × (1 ≤ e.position) × (e.position ≤ c.votes.last)) = c.add_vote.ensures.damaged (search rules) in
    let late : HasCleanDisk (state g.S.Store after) = subst (λ h. HasCleanDisk (state g.S.Store h)) (sym same) clean in
    let mid : HasCleanDisk (state g.S.Store before) = omega (arith, c.advance.ensures.survives.clean) in
    let it = inv.6 mid in
    let some : row_if c.advance.new.self.has_row after ≡ Some row = sym c.get.ensures ∙ ap option_copied c.in-Some.is in
    let given = subst (λ row. Advances g.S.Store before after row) some (c.in_default.ensures.ok late) votes_load_text [] it.0 it.1 in
    let kept = unchanged_then old (state g.S.Store before) (state g.S.Store after) it.2 (c.in_default.ensures.same late) in
    let first : HasCleanDisk old = was_clean old (state g.S.Store before) _ inv.1 mid in
    refuses (state g.S.Store after) (subst (λ (d : Database). AreTables d.schema) (sym kept.0.now_is) (c.requires first)) c.args.members c.args.promise votes (subst (λ (d : Database). AreVotes c.args.members c.args.promise (d.trees 1) votes) (sym kept.0.now_is) are)
    it.0 row c.votes.record.votes (given_begin g.S.Store votes_load_text [] after (it.0 ++ row ∷ []) given) it.3 (subst (λ n. ShowsNoVote c.args.members c.args.promise row ⊎ ((e : Entry) × Shows c.args.members c.args.promise row e × (1 ≤ e.position) × (e.position ≤ n))) inv.3 refused)

pub returns-clause-damaged : goal.returns-clause-damaged
unfolding positions
returns-clause-damaged g c clean damaged votes are = too_many c.votes.counter c.votes.last (omega (arith, c.votes-test.false, c.votes.auto.counter-end)) c.votes.invariant.4 c.votes.invariant.5

pub returns-in-Err-clause-store : goal.returns-in-Err-clause-store
returns-in-Err-clause-store g c clean is =
    let old = state g.S.Store c.args.connection.now in
    let new = state g.S.Store c.query.follows.lender-at-none in
    let held = c.query.follows.holds-at-none in
    let kept : Survives old new (CommitsShowing votes_load_text [] old) = search rules in
    let refused : IfErr c.query.result (FailsToQuery votes_load_text [] old new) = search rules in
    let failed : FailsToQuery votes_load_text [] old new c.in-Err.error = rw c.in-Err.is at refused in
    votes_failed old new (c.requires (was_clean old new _ kept clean)) c.in-Err.error failed (c.fault_of.ensures.store cc)

pub returns-in-Err-advance-clause-store : goal.returns-in-Err-advance-clause-store
returns-in-Err-advance-clause-store g c clean is =
    let other = c.fault_of-in-Err-advance.ensures.store cc in
    let old = state g.S.Store c.args.connection.now in
    let before = c.votes.rows.conn.now in
    let after = c.advance.new.self.conn.now in
    let inv = c.votes.invariant in
    let same : after ≡ c.connection-in-Err-advance-1.given.0 = search rules in
    let late : HasCleanDisk (state g.S.Store after) = subst (λ h. HasCleanDisk (state g.S.Store h)) (sym same) clean in
    let mid : HasCleanDisk (state g.S.Store before) = omega (arith, c.advance.ensures.survives.clean) in
    let it = inv.6 mid in
    let first : HasCleanDisk old = was_clean old (state g.S.Store before) _ inv.1 mid in
    let known : AreTables (state g.S.Store before).now.schema = subst (λ (d : Database). AreTables d.schema) (sym it.2.0.now_is) (c.requires first) in
    let failed = votes_failed (state g.S.Store before) (state g.S.Store after) known c.in-Err-advance.error (c.in-Err-advance.ensures.err late votes_load_text [] it.0 it.1) other in
    subst (λ h. StoreFailed old (state g.S.Store h)) same (since old (state g.S.Store before) (state g.S.Store after) _ it.2 inv.1 failed)
