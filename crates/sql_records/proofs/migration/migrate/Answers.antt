use Rattle.std.proofs.Common.{◌≡◌, arith, rules, sym, subst}
use Rattle.sqlite.specs.State.{HasCleanDisk}
use Rattle.sqlite.specs.Held.{state}
use Rattle.sql_records.specs.Created.{MigratesOnly}
use Rattle.record_writes.specs.Faults.{StoreFailed}
use Rattle.record_writes.specs.Holds.{Holds}
use Rattle.sql_records.proofs.Migrating.{begins, failed_since, made_now, migrates, survived}
use Rattle.sql_records.proofs.Queried.{was_clean}
use Rattle.record_writes.proofs.Failing.{commit_failed, later, store_still}
use Rattle.sql_records.specs.Opened.{IsAsBefore}
use Rattle.sql_records.proofs.Undone.{back_failed, back_rolled}
use Rattle.sql_records.proofs.migration.migrate.Goals as goal

pub returns-in-Err-clause-store : goal.returns-in-Err-clause-store
returns-in-Err-clause-store g c clean is =
    let other = c.fault_of.ensures.store cc in
    let h = c.args.connection.now in
    let begun = c.transaction-tx.ensures.begun in
    let b = c.transaction-tx.result.conn.now in
    let mid = c.rewrite.new.tx.conn.now in
    let end = c.rollback.new.self.0 in
    let same : end ≡ c.connection-1.given.0 = search rules in
    let late : HasCleanDisk (state g.S.Store end) = subst (λ x. HasCleanDisk (state g.S.Store x)) (sym same) clean in
    let mid_clean : HasCleanDisk (state g.S.Store mid) = omega (arith, c.rollback.ensures.survives.clean) in
    let kept = survived g.S.Store h b begun (state g.S.Store mid) _ c.rewrite.ensures.survives in
    let it = c.requires.held (was_clean (state g.S.Store h) (state g.S.Store mid) _ kept mid_clean) in
    let failed = c.in-Err.ensures.store mid_clean (state g.S.Store h).now.trees it.0 it.1 (begins g.S.Store h b begun c.requires.first) other in
    let at = failed_since g.S.Store h b begun (state g.S.Store mid) failed in
    subst (λ x. StoreFailed (state g.S.Store h) (state g.S.Store x)) same (store_still (state g.S.Store h) (state g.S.Store mid) (state g.S.Store end) c.rollback.ensures.survives.counts at)

pub returns-in-Ok-clause-made : goal.returns-in-Ok-clause-made
returns-in-Ok-clause-made g c clean r it =
    let h = c.args.connection.now in
    let begun = c.transaction-tx.ensures.begun in
    let b = c.transaction-tx.result.conn.now in
    let mid = c.rewrite.new.tx.conn.now in
    let end = c.commit.new.self.0 in
    let same : end ≡ c.connection-2-1.given.0 = search rules in
    let late : HasCleanDisk (state g.S.Store end) = subst (λ x. HasCleanDisk (state g.S.Store x)) (sym same) clean in
    let mid_clean : HasCleanDisk (state g.S.Store mid) = omega (arith, c.commit.ensures.survives.clean) in
    let made = c.in_default.ensures.made mid_clean (state g.S.Store h).now.trees r it (begins g.S.Store h b begun c.requires.first) in
    subst (λ x. Holds (state g.S.Store x) c.args.setup.now r r) same
    (made_now (state g.S.Store h) (state g.S.Store mid) (state g.S.Store end) c.args.setup.now r made (c.in-Ok.ensures.ok late).1 (λ up db left. g.met.S.Store.settled end.store db up left))

pub returns-in-Err-commit-clause-store : goal.returns-in-Err-commit-clause-store
returns-in-Err-commit-clause-store g c clean is =
    let other = c.fault_of-in-Err-commit.ensures.store cc in
    let h = c.args.connection.now in
    let begun = c.transaction-tx.ensures.begun in
    let b = c.transaction-tx.result.conn.now in
    let mid = c.rewrite.new.tx.conn.now in
    let end = c.commit.new.self.0 in
    let same : end ≡ c.connection-2-1.given.0 = search rules in
    let late : HasCleanDisk (state g.S.Store end) = subst (λ x. HasCleanDisk (state g.S.Store x)) (sym same) clean in
    let mid_clean : HasCleanDisk (state g.S.Store mid) = omega (arith, c.commit.ensures.survives.clean) in
    let kept = survived g.S.Store h b begun (state g.S.Store mid) _ c.rewrite.ensures.survives in
    let it = c.requires.held (was_clean (state g.S.Store h) (state g.S.Store mid) _ kept mid_clean) in
    let made = c.in_default.ensures.made mid_clean (state g.S.Store h).now.trees it.0 it.1 (begins g.S.Store h b begun c.requires.first) in
    let failed = commit_failed (state g.S.Store mid) (state g.S.Store end) made.mode c.in-Err-commit.error (c.in-Err-commit.ensures.err late) other in
    subst (λ x. StoreFailed (state g.S.Store h) (state g.S.Store x)) same (later (state g.S.Store h) (state g.S.Store mid) (state g.S.Store end) _ mid_clean kept c.commit.ensures.survives.counts failed)

pub returns-in-Err-commit-clause-migrates : goal.returns-in-Err-commit-clause-migrates
returns-in-Err-commit-clause-migrates g c clean =
    let h = c.args.connection.now in
    let begun = c.transaction-tx.ensures.begun in
    let b = c.transaction-tx.result.conn.now in
    let mid = c.rewrite.new.tx.conn.now in
    let end = c.commit.new.self.0 in
    let same : end ≡ c.connection-2-1.given.0 = search rules in
    let late : HasCleanDisk (state g.S.Store end) = subst (λ x. HasCleanDisk (state g.S.Store x)) (sym same) clean in
    let mid_clean : HasCleanDisk (state g.S.Store mid) = omega (arith, c.commit.ensures.survives.clean) in
    let kept = survived g.S.Store h b begun (state g.S.Store mid) _ c.rewrite.ensures.survives in
    let only : MigratesOnly c.args.setup.now (state g.S.Store h) (state g.S.Store end) = migrates (state g.S.Store h) (state g.S.Store mid) (state g.S.Store end) c.args.setup.now c.requires.first mid_clean kept c.commit.ensures.survives
    (λ k it. c.in_default.ensures.made mid_clean (state g.S.Store h).now.trees k it (begins g.S.Store h b begun c.requires.first)) in
    subst (λ x. MigratesOnly c.args.setup.now (state g.S.Store h) (state g.S.Store x)) same only clean

pub returns-in-Err-clause-back : goal.returns-in-Err-clause-back
returns-in-Err-clause-back g c clean =
    let h = c.args.connection.now in
    let begun = c.transaction-tx.ensures.begun in
    let b = c.transaction-tx.result.conn.now in
    let mid = c.rewrite.new.tx.conn.now in
    let end = c.rollback.new.self.0 in
    let same : end ≡ c.connection-1.given.0 = search rules in
    let late : HasCleanDisk (state g.S.Store end) = subst (λ x. HasCleanDisk (state g.S.Store x)) (sym same) clean in
    let mid_clean : HasCleanDisk (state g.S.Store mid) = omega (arith, c.rollback.ensures.survives.clean) in
    subst (λ x. IsAsBefore (state g.S.Store h) (state g.S.Store x)) same (back_rolled g.S.Store h b begun c.requires.mode c.requires.settled (state g.S.Store mid) (state g.S.Store end) (c.rewrite.ensures.undone mid_clean) (c.rollback.ensures.undone late))

pub returns-in-Err-commit-clause-back : goal.returns-in-Err-commit-clause-back
returns-in-Err-commit-clause-back g c clean =
    let h = c.args.connection.now in
    let begun = c.transaction-tx.ensures.begun in
    let b = c.transaction-tx.result.conn.now in
    let mid = c.rewrite.new.tx.conn.now in
    let end = c.commit.new.self.0 in
    let same : end ≡ c.connection-2-1.given.0 = search rules in
    let late : HasCleanDisk (state g.S.Store end) = subst (λ x. HasCleanDisk (state g.S.Store x)) (sym same) clean in
    let mid_clean : HasCleanDisk (state g.S.Store mid) = omega (arith, c.commit.ensures.survives.clean) in
    let kept = survived g.S.Store h b begun (state g.S.Store mid) _ c.rewrite.ensures.survives in
    let it = c.requires.held (was_clean (state g.S.Store h) (state g.S.Store mid) _ kept mid_clean) in
    let made = c.in_default.ensures.made mid_clean (state g.S.Store h).now.trees it.0 it.1 (begins g.S.Store h b begun c.requires.first) in
    subst (λ x. IsAsBefore (state g.S.Store h) (state g.S.Store x)) same (back_failed g.S.Store h b begun c.requires.mode c.requires.settled (state g.S.Store mid) (state g.S.Store end) (c.rewrite.ensures.undone mid_clean) made.mode c.in-Err-commit.error (c.in-Err-commit.ensures.err late))
