use Rattle.std.proofs.Common.{◌≡◌, List, IfOk, rules, [], ◌∷◌, map, refl, subst, sym, ap, ◌∙◌}
use Rattle.std.specs.List.Sorted.{IsPermutation}
use Rattle.sqlite.specs.Effect.{Database}
use Rattle.sqlite.specs.Order.{Row}
use Rattle.sqlite.specs.State.{HasCleanDisk, IsUnchanged}
use Rattle.sqlite.specs.Held.{state}
use Rattle.sqlite.proofs.Callers.{unchanged_then}
use Rattle.sqlite_catalog.specs.Listing.{IsSound}
use Rattle.record_tables.specs.Versions.{number_of, tables_of}
use Rattle.sql_records.specs.Reading.{AreShown, AreVotes, meta_shown, vote_shown, ShowsAnother, ShowsNoMember}
use Rattle.ballots.specs.Values.{positions}
use Rattle.paxos.specs.WellFormed.{AreVotes as MayBeVotes}
use Rattle.record_writes.specs.Stored.{KeepsLearnt}
use Rattle.sql_records.proofs.Loaded.{member_row}
use Rattle.sql_records.proofs.Refused.{no_member, no_values, no_votes}
use Rattle.sql_records.proofs.Owned.{anothers}
use Rattle.sql_records.proofs.Judged.{sound, sound_record, stored}
use Rattle.record_writes.proofs.Failing.{since}
use Rattle.sql_records.proofs.Queried.{was_clean}
use Rattle.record_writes.proofs.Holding.{quiet}
use Rattle.ballots.specs.declared.value.Entry.{Entry}
use Rattle.sql_records.proofs.Undone.{back_after, back_ended, back_unchanged}
use Rattle.sql_records.proofs.load.read.Goals as goal

pub load_votes-requires : goal.load_votes-requires
load_votes-requires g c clean = (c.args.version, ap (λ (d : Database). d.schema) ((c.in-Ok.ensures.same clean).0.now_is) ∙ c.if-not-is_ready.ensures.schema refl)

pub load_kept-requires-clause-sound : goal.load_kept-requires-clause-sound
load_kept-requires-clause-sound g c clean =
    let old = state g.S.Store c.args.connection.now in
    let mid = state g.S.Store c.meta_rows.new.connection in
    let new = state g.S.Store c.load_votes.new.connection in
    let first = c.in-Ok.ensures.same (was_clean mid new _ c.load_votes.ensures.survives clean) in
    let all = unchanged_then old mid new first (c.in_ok-record.ensures.same clean) in
    subst (λ (d : Database). IsSound (tables_of c.args.version) d.trees) (sym all.0.now_is) (sound c.args.version old mid new c.args.setup.now (c.if-not-is_ready.ensures.schema refl) (c.if-not-is_ready.ensures.live refl) first)

pub returns-clause-crash : goal.returns-clause-crash
returns-clause-crash g c clean o a b h =
    let old = state g.S.Store c.args.connection.now in
    let mid = state g.S.Store c.meta_rows.new.connection in
    let two = state g.S.Store c.load_votes.new.connection in
    let new = state g.S.Store c.load_kept.new.connection in
    let two_clean : HasCleanDisk two = was_clean two new _ c.load_kept.ensures.survives clean in
    let mid_clean : HasCleanDisk mid = was_clean mid two _ c.load_votes.ensures.survives two_clean in
    let first = quiet old mid o a b h (c.meta_rows.ensures.ended mid_clean) mid_clean c.meta_rows.ensures.survives in
    let second = quiet mid two o a b first (c.load_votes.ensures.ended two_clean) two_clean c.load_votes.ensures.survives in
    quiet two new o a b second (c.load_kept.ensures.ended clean) clean c.load_kept.ensures.survives

pub returns-clause-stored : goal.returns-clause-stored
returns-clause-stored g c clean =
    let old = state g.S.Store c.args.connection.now in
    let mid = state g.S.Store c.meta_rows.new.connection in
    let two = state g.S.Store c.load_votes.new.connection in
    let new = state g.S.Store c.load_kept.new.connection in
    let o = c.args.setup.now in
    let version = c.args.version in
    let b = c.in_ok-promise.promise in
    let two_clean : HasCleanDisk two = was_clean two new _ c.load_kept.ensures.survives clean in
    let mid_clean : HasCleanDisk mid = was_clean mid two _ c.load_votes.ensures.survives two_clean in
    let first : IsUnchanged old mid = c.in-Ok.ensures.same mid_clean in
    let all = unchanged_then old mid two first (c.in_ok-record.ensures.same two_clean) in
    let it = c.in_ok-promise.ensures.shows in
    let metas : IsPermutation (map meta_shown (old.now.trees 0)) (it.0 ∷ []) = subst (IsPermutation (map meta_shown (old.now.trees 0))) (sym c.as_slice.ensures.value ∙ it.1) (c.in-Ok.ensures.rows mid_clean) in
    let many : c.from-members.result ≡ o.members = search rules in
    let votes : (rows : List Row) × IsPermutation (map vote_shown (mid.now.trees 1)) rows × AreShown o.members b rows c.in_ok-record.record.votes =
    subst (λ n. (rows : List Row) × IsPermutation (map vote_shown (mid.now.trees 1)) rows × AreShown n b rows c.in_ok-record.record.votes) many (c.in_ok-record.ensures.votes two_clean) in
    let kept : IfOk c.load_kept.result (λ r. KeepsLearnt version old.now.trees r.learnt) = subst (λ (d : Database). IfOk c.load_kept.result (λ r. KeepsLearnt version d.trees r.learnt)) all.0.now_is (c.load_kept.ensures.kept clean) in
    stored version old mid new o (c.if-not-is_ready.ensures.schema refl) (c.if-not-is_ready.ensures.live refl) first it.0 b votes.0 c.in_ok-record.record c.load_kept.result metas it.2 votes.1 votes.2
    c.in_ok-record.ensures.promise c.in_ok-record.ensures.rising kept c.load_kept.ensures.promise c.load_kept.ensures.votes

pub returns-clause-sound : goal.returns-clause-sound
returns-clause-sound g c =
    let o = c.args.setup.now in
    let b = c.in_ok-promise.promise in
    let many : c.from-members.result ≡ o.members = search rules in
    let votes : MayBeVotes o.members b 1 positions c.in_ok-record.record.votes = subst (λ n. MayBeVotes n b 1 positions c.in_ok-record.record.votes) many c.in_ok-record.ensures.sound in
    sound_record o.members b c.in_ok-record.record c.load_kept.result c.in_ok-promise.ensures.shows.2.promise votes c.in_ok-record.ensures.promise c.load_kept.ensures.promise c.load_kept.ensures.votes c.load_kept.ensures.few

pub returns-in_err-promise-clause-other : goal.returns-in_err-promise-clause-other
returns-in_err-promise-clause-other g c clean is_other =
    let old = state g.S.Store c.args.connection.now in
    let has = c.if-not-is_ready.ensures.schema refl in
    let first = c.in-Ok.ensures.same clean in
    let moved : IsPermutation (map meta_shown (old.now.trees 0)) c.as_slice.result.now = subst (IsPermutation (map meta_shown (old.now.trees 0))) (sym c.as_slice.ensures.value) (c.in-Ok.ensures.rows clean) in
    let it : ShowsAnother c.args.setup.now c.as_slice.result.now = search rules in
    let mid = state g.S.Store c.meta_rows.new.connection in
    anothers c.args.version c.args.setup.now old.now has (sound c.args.version old mid mid c.args.setup.now has (c.if-not-is_ready.ensures.live refl) first) c.as_slice.result.now moved it

pub returns-in_err-promise-clause-damaged : goal.returns-in_err-promise-clause-damaged
returns-in_err-promise-clause-damaged g c clean is mode =
    let old = state g.S.Store c.args.connection.now in
    let moved : IsPermutation (map meta_shown (old.now.trees 0)) c.as_slice.result.now = subst (IsPermutation (map meta_shown (old.now.trees 0))) (sym c.as_slice.ensures.value) (c.in-Ok.ensures.rows clean) in
    let it : ShowsNoMember c.args.version c.args.setup.now c.as_slice.result.now = c.in_err-promise.ensures.damaged (search rules) in
    no_member c.args.version c.args.setup.now old.now c.as_slice.result.now moved c.are_numbers.ensures it

pub returns-in_err-record-clause-damaged : goal.returns-in_err-record-clause-damaged
returns-in_err-record-clause-damaged g c clean is mode =
    let old = state g.S.Store c.args.connection.now in
    let mid = state g.S.Store c.meta_rows.new.connection in
    let two = state g.S.Store c.load_votes.new.connection in
    let o = c.args.setup.now in
    let version = c.args.version in
    let b = c.in_ok-promise.promise in
    let refused : (votes : List Entry) → ¬ AreVotes c.from-members.result b (mid.now.trees 1) votes = c.load_votes.ensures.damaged clean (search rules) in
    let mid_clean : HasCleanDisk mid = was_clean mid two _ c.load_votes.ensures.survives clean in
    let it = c.in_ok-promise.ensures.shows in
    let first = c.in-Ok.ensures.same mid_clean in
    let metas : IsPermutation (map meta_shown (old.now.trees 0)) (it.0 ∷ []) = subst (IsPermutation (map meta_shown (old.now.trees 0))) (sym c.as_slice.ensures.value ∙ it.1) (c.in-Ok.ensures.rows mid_clean) in
    let row = member_row version o old.now.trees (sound version old mid two o (c.if-not-is_ready.ensures.schema refl) (c.if-not-is_ready.ensures.live refl) first) it.0 (number_of version) b metas it.2 in
    let many : c.from-members.result ≡ o.members = search rules in
    no_votes version o old.now b row (λ votes are. refused votes (subst (λ n. AreVotes n b (mid.now.trees 1) votes) (sym many) (subst (λ (d : Database). AreVotes o.members b (d.trees 1) votes) (sym first.0.now_is) are)))

pub returns-clause-damaged : goal.returns-clause-damaged
returns-clause-damaged g c clean is mode =
    let old = state g.S.Store c.args.connection.now in
    let mid = state g.S.Store c.meta_rows.new.connection in
    let two = state g.S.Store c.load_votes.new.connection in
    let new = state g.S.Store c.load_kept.new.connection in
    let o = c.args.setup.now in
    let version = c.args.version in
    let b = c.in_ok-promise.promise in
    let two_clean : HasCleanDisk two = was_clean two new _ c.load_kept.ensures.survives clean in
    let mid_clean : HasCleanDisk mid = was_clean mid two _ c.load_votes.ensures.survives two_clean in
    let it = c.in_ok-promise.ensures.shows in
    let first = c.in-Ok.ensures.same mid_clean in
    let all = unchanged_then old mid two first (c.in_ok-record.ensures.same two_clean) in
    let metas : IsPermutation (map meta_shown (old.now.trees 0)) (it.0 ∷ []) = subst (IsPermutation (map meta_shown (old.now.trees 0))) (sym c.as_slice.ensures.value ∙ it.1) (c.in-Ok.ensures.rows mid_clean) in
    let row = member_row version o old.now.trees (sound version old mid new o (c.if-not-is_ready.ensures.schema refl) (c.if-not-is_ready.ensures.live refl) first) it.0 (number_of version) b metas it.2 in
    no_values version o old.now b row (λ values kept. c.load_kept.ensures.damaged clean is values (subst (λ (d : Database). KeepsLearnt version d.trees values) (sym all.0.now_is) kept))

pub returns-clause-store : goal.returns-clause-store
returns-clause-store g c clean is =
    let old = state g.S.Store c.args.connection.now in
    let mid = state g.S.Store c.meta_rows.new.connection in
    let two = state g.S.Store c.load_votes.new.connection in
    let new = state g.S.Store c.load_kept.new.connection in
    let two_clean : HasCleanDisk two = was_clean two new _ c.load_kept.ensures.survives clean in
    let mid_clean : HasCleanDisk mid = was_clean mid two _ c.load_votes.ensures.survives two_clean in
    let failed = since mid two new _ (c.in_ok-record.ensures.same two_clean) c.load_votes.ensures.survives (c.load_kept.ensures.store clean is) in
    since old mid new _ (c.in-Ok.ensures.same mid_clean) c.meta_rows.ensures.survives failed

pub returns-in-Err-clause-store : goal.returns-in-Err-clause-store
returns-in-Err-clause-store g c clean is = c.in-Err.ensures.store clean (c.fault_of.ensures.store cc)

pub returns-in-Err-clause-back : goal.returns-in-Err-clause-back
returns-in-Err-clause-back g c clean =
    let old = state g.S.Store c.args.connection.now in
    let mid = state g.S.Store c.meta_rows.new.connection in
    back_ended old mid (c.if-not-is_ready.ensures.mode refl) (c.if-not-is_ready.ensures.settled refl) (c.meta_rows.ensures.ended clean)

pub returns-in_err-promise-clause-back : goal.returns-in_err-promise-clause-back
returns-in_err-promise-clause-back g c clean =
    let old = state g.S.Store c.args.connection.now in
    let mid = state g.S.Store c.meta_rows.new.connection in
    back_unchanged old mid (c.in-Ok.ensures.same clean)

pub returns-in_err-record-clause-back : goal.returns-in_err-record-clause-back
returns-in_err-record-clause-back g c clean =
    let old = state g.S.Store c.args.connection.now in
    let mid = state g.S.Store c.meta_rows.new.connection in
    let two = state g.S.Store c.load_votes.new.connection in
    let mid_clean : HasCleanDisk mid = was_clean mid two _ c.load_votes.ensures.survives clean in
    back_after old mid two (c.in-Ok.ensures.same mid_clean) (c.if-not-is_ready.ensures.mode refl) (c.if-not-is_ready.ensures.settled refl) (c.load_votes.ensures.ended clean)

pub returns-clause-back : goal.returns-clause-back
returns-clause-back g c clean =
    let old = state g.S.Store c.args.connection.now in
    let mid = state g.S.Store c.meta_rows.new.connection in
    let two = state g.S.Store c.load_votes.new.connection in
    let new = state g.S.Store c.load_kept.new.connection in
    let two_clean : HasCleanDisk two = was_clean two new _ c.load_kept.ensures.survives clean in
    let mid_clean : HasCleanDisk mid = was_clean mid two _ c.load_votes.ensures.survives two_clean in
    let all = unchanged_then old mid two (c.in-Ok.ensures.same mid_clean) (c.in_ok-record.ensures.same two_clean) in
    back_after old two new all (c.if-not-is_ready.ensures.mode refl) (c.if-not-is_ready.ensures.settled refl) (c.load_kept.ensures.ended clean)
