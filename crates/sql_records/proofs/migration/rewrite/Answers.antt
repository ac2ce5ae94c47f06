use Rattle.std.proofs.Common.{◌≢◌, rules}
use Rattle.std.specs.Prelude.{IfErr}
use Rattle.sqlite.specs.State.{HasCleanDisk}
use Rattle.sqlite.specs.Held.{state}
use Rattle.sqlite.specs.declared.error.ErrorCode.TheVariants.{OutOfMemory}
use Rattle.sqlite.specs.declared.error.Error.TheVariants.{SqliteFailure}
use Rattle.record_writes.specs.Faults.{StoreFailed}
use Rattle.sql_records.proofs.Queried.{was_clean}
use Rattle.record_writes.proofs.Failing.{err_later}
use Rattle.sql_records.proofs.Undone.{keeps_both}
use Rattle.sql_records.proofs.migration.rewrite.Goals as goal

pub returns-in_err-make_learnt-clause-store : goal.returns-in_err-make_learnt-clause-store
returns-in_err-make_learnt-clause-store g c clean db r it m =
    let failed = c.make_learnt.ensures.store clean (db 0) (db 1) m in search (rules, failed)

pub returns-in_err-set_version-clause-store : goal.returns-in_err-set_version-clause-store
returns-in_err-set_version-clause-store g c clean db r it m =
    let old = state g.S.Store c.args.tx.now.conn.now in
    let mid = state g.S.Store c.make_learnt.new.tx.conn.now in
    let new = state g.S.Store c.set_version.new.tx.conn.now in
    let mid_clean : HasCleanDisk mid = was_clean mid new _ c.set_version.ensures.survives clean in
    let failed = c.set_version.ensures.store clean db r it (c.in_ok-make_learnt.ensures.made mid_clean (db 0) (db 1) m) in
    let told : IfErr c.from_residual-in_err-set_version.result (λ e. e ≢ SqliteFailure OutOfMemory → StoreFailed mid new) = search (rules, failed) in
    err_later old mid new _ mid_clean c.make_learnt.ensures.survives c.set_version.ensures.survives.counts c.from_residual-in_err-set_version.result told

pub returns-clause-made : goal.returns-clause-made
returns-clause-made g c clean db r it m =
    let mid = state g.S.Store c.make_learnt.new.tx.conn.now in
    let new = state g.S.Store c.set_version.new.tx.conn.now in
    let mid_clean : HasCleanDisk mid = was_clean mid new _ c.set_version.ensures.survives clean in
    c.in_ok-set_version.ensures.made clean db r it (c.in_ok-make_learnt.ensures.made mid_clean (db 0) (db 1) m)

pub returns-in_err-set_version-clause-undone : goal.returns-in_err-set_version-clause-undone
returns-in_err-set_version-clause-undone g c clean =
    let old = state g.S.Store c.args.tx.now.conn.now in
    let one = state g.S.Store c.make_learnt.new.tx.conn.now in
    let new = state g.S.Store c.set_version.new.tx.conn.now in
    let one_clean : HasCleanDisk one = was_clean one new _ c.set_version.ensures.survives clean in
    keeps_both old one new (c.make_learnt.ensures.undone one_clean) (c.set_version.ensures.undone clean)

pub returns-clause-undone : goal.returns-clause-undone
returns-clause-undone g c clean =
    let old = state g.S.Store c.args.tx.now.conn.now in
    let one = state g.S.Store c.make_learnt.new.tx.conn.now in
    let new = state g.S.Store c.set_version.new.tx.conn.now in
    let one_clean : HasCleanDisk one = was_clean one new _ c.set_version.ensures.survives clean in
    keeps_both old one new (c.make_learnt.ensures.undone one_clean) (c.set_version.ensures.undone clean)
