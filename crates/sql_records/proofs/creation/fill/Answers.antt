use Rattle.std.proofs.Common.{◌≢◌, [], rules}
use Rattle.std.specs.Prelude.{IfErr}
use Rattle.std.proofs.Math.Nat.{le_trans}
use Rattle.sqlite.specs.State.{HasCleanDisk}
use Rattle.sqlite.specs.Held.{state}
use Rattle.sqlite.specs.declared.error.ErrorCode.TheVariants.{OutOfMemory}
use Rattle.sqlite.specs.declared.error.Error.TheVariants.{SqliteFailure}
use Rattle.record_writes.specs.Faults.{StoreFailed}
use Rattle.sql_records.proofs.Queried.{was_clean}
use Rattle.record_writes.proofs.Failing.{err_later}
use Rattle.sql_records.proofs.Undone.{keeps_both}
use Rattle.sql_records.proofs.creation.fill.Goals as goal

pub returns-in_err-make_learnt-clause-store : goal.returns-in_err-make_learnt-clause-store
returns-in_err-make_learnt-clause-store g c clean m =
    let old = state g.S.Store c.args.tx.now.conn.now in
    let one = state g.S.Store c.make_meta.new.tx.conn.now in
    let two = state g.S.Store c.make_votes.new.tx.conn.now in
    let new = state g.S.Store c.make_learnt.new.tx.conn.now in
    let two_clean : HasCleanDisk two = was_clean two new _ c.make_learnt.ensures.survives clean in
    let one_clean : HasCleanDisk one = was_clean one two _ c.make_votes.ensures.survives two_clean in
    let failed = c.make_learnt.ensures.store clean [] [] (c.in_ok-make_votes.ensures.made two_clean (c.in_ok-make_meta.ensures.made one_clean m)) in
    let told : IfErr c.from_residual-in_err-make_learnt.result (λ e. e ≢ SqliteFailure OutOfMemory → StoreFailed two new) = search (rules, failed) in
    let since_one = err_later one two new _ two_clean c.make_votes.ensures.survives c.make_learnt.ensures.survives.counts c.from_residual-in_err-make_learnt.result told in
    err_later old one new _ one_clean c.make_meta.ensures.survives (le_trans c.make_votes.ensures.survives.counts c.make_learnt.ensures.survives.counts) c.from_residual-in_err-make_learnt.result since_one

pub returns-in_err-put_member-clause-store : goal.returns-in_err-put_member-clause-store
returns-in_err-put_member-clause-store g c clean m =
    let old = state g.S.Store c.args.tx.now.conn.now in
    let one = state g.S.Store c.make_meta.new.tx.conn.now in
    let two = state g.S.Store c.make_votes.new.tx.conn.now in
    let three = state g.S.Store c.make_learnt.new.tx.conn.now in
    let new = state g.S.Store c.put_member.new.tx.conn.now in
    let three_clean : HasCleanDisk three = was_clean three new _ c.put_member.ensures.survives clean in
    let two_clean : HasCleanDisk two = was_clean two three _ c.make_learnt.ensures.survives three_clean in
    let one_clean : HasCleanDisk one = was_clean one two _ c.make_votes.ensures.survives two_clean in
    let empty = c.in_ok-make_learnt.ensures.made three_clean [] [] (c.in_ok-make_votes.ensures.made two_clean (c.in_ok-make_meta.ensures.made one_clean m)) in
    let failed = c.put_member.ensures.store clean empty in
    let told : IfErr c.from_residual-in_err-put_member.result (λ e. e ≢ SqliteFailure OutOfMemory → StoreFailed three new) = search (rules, failed) in
    let grows = c.put_member.ensures.survives.counts in
    let since_two = err_later two three new _ three_clean c.make_learnt.ensures.survives grows c.from_residual-in_err-put_member.result told in
    let more = le_trans c.make_learnt.ensures.survives.counts grows in
    let since_one = err_later one two new _ two_clean c.make_votes.ensures.survives more c.from_residual-in_err-put_member.result since_two in
    err_later old one new _ one_clean c.make_meta.ensures.survives (le_trans c.make_votes.ensures.survives.counts more) c.from_residual-in_err-put_member.result since_one

pub returns-clause-made : goal.returns-clause-made
returns-clause-made g c clean m =
    let one = state g.S.Store c.make_meta.new.tx.conn.now in
    let two = state g.S.Store c.make_votes.new.tx.conn.now in
    let three = state g.S.Store c.make_learnt.new.tx.conn.now in
    let new = state g.S.Store c.put_member.new.tx.conn.now in
    let three_clean : HasCleanDisk three = was_clean three new _ c.put_member.ensures.survives clean in
    let two_clean : HasCleanDisk two = was_clean two three _ c.make_learnt.ensures.survives three_clean in
    let one_clean : HasCleanDisk one = was_clean one two _ c.make_votes.ensures.survives two_clean in
    let empty = c.in_ok-make_learnt.ensures.made three_clean [] [] (c.in_ok-make_votes.ensures.made two_clean (c.in_ok-make_meta.ensures.made one_clean m)) in
    c.in_ok-put_member.ensures.made clean empty

pub returns-in_err-make_votes-clause-undone : goal.returns-in_err-make_votes-clause-undone
returns-in_err-make_votes-clause-undone g c clean =
    let old = state g.S.Store c.args.tx.now.conn.now in
    let one = state g.S.Store c.make_meta.new.tx.conn.now in
    let new = state g.S.Store c.make_votes.new.tx.conn.now in
    let one_clean : HasCleanDisk one = was_clean one new _ c.make_votes.ensures.survives clean in
    keeps_both old one new (c.make_meta.ensures.undone one_clean) (c.make_votes.ensures.undone clean)

pub returns-in_err-make_learnt-clause-undone : goal.returns-in_err-make_learnt-clause-undone
returns-in_err-make_learnt-clause-undone g c clean =
    let old = state g.S.Store c.args.tx.now.conn.now in
    let one = state g.S.Store c.make_meta.new.tx.conn.now in
    let two = state g.S.Store c.make_votes.new.tx.conn.now in
    let new = state g.S.Store c.make_learnt.new.tx.conn.now in
    let two_clean : HasCleanDisk two = was_clean two new _ c.make_learnt.ensures.survives clean in
    let one_clean : HasCleanDisk one = was_clean one two _ c.make_votes.ensures.survives two_clean in
    keeps_both old two new (keeps_both old one two (c.make_meta.ensures.undone one_clean) (c.make_votes.ensures.undone two_clean)) (c.make_learnt.ensures.undone clean)

pub returns-in_err-put_member-clause-undone : goal.returns-in_err-put_member-clause-undone
returns-in_err-put_member-clause-undone g c clean =
    let old = state g.S.Store c.args.tx.now.conn.now in
    let one = state g.S.Store c.make_meta.new.tx.conn.now in
    let two = state g.S.Store c.make_votes.new.tx.conn.now in
    let three = state g.S.Store c.make_learnt.new.tx.conn.now in
    let new = state g.S.Store c.put_member.new.tx.conn.now in
    let three_clean : HasCleanDisk three = was_clean three new _ c.put_member.ensures.survives clean in
    let two_clean : HasCleanDisk two = was_clean two three _ c.make_learnt.ensures.survives three_clean in
    let one_clean : HasCleanDisk one = was_clean one two _ c.make_votes.ensures.survives two_clean in
    keeps_both old three new (keeps_both old two three (keeps_both old one two (c.make_meta.ensures.undone one_clean) (c.make_votes.ensures.undone two_clean)) (c.make_learnt.ensures.undone three_clean)) (c.put_member.ensures.undone clean)

pub returns-clause-undone : goal.returns-clause-undone
returns-clause-undone g c clean =
    let old = state g.S.Store c.args.tx.now.conn.now in
    let one = state g.S.Store c.make_meta.new.tx.conn.now in
    let two = state g.S.Store c.make_votes.new.tx.conn.now in
    let three = state g.S.Store c.make_learnt.new.tx.conn.now in
    let new = state g.S.Store c.put_member.new.tx.conn.now in
    let three_clean : HasCleanDisk three = was_clean three new _ c.put_member.ensures.survives clean in
    let two_clean : HasCleanDisk two = was_clean two three _ c.make_learnt.ensures.survives three_clean in
    let one_clean : HasCleanDisk one = was_clean one two _ c.make_votes.ensures.survives two_clean in
    keeps_both old three new (keeps_both old two three (keeps_both old one two (c.make_meta.ensures.undone one_clean) (c.make_votes.ensures.undone two_clean)) (c.make_learnt.ensures.undone three_clean)) (c.put_member.ensures.undone clean)
