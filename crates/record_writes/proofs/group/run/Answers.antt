use Rattle.std.proofs.Common.{◌≡◌, ◌≢◌, IsTrue, arith, rules, sym, subst}
use Rattle.std.specs.Prelude.{IfErr}
use Rattle.sqlite.specs.State.{HasCleanDisk, Survives}
use Rattle.sqlite.specs.declared.error.ErrorCode.TheVariants.{OutOfMemory}
use Rattle.sqlite.specs.declared.error.Error.TheVariants.{SqliteFailure}
use Rattle.sqlite.specs.Held.{state}
use Rattle.records.specs.Group.{after}
use Rattle.record_writes.specs.Holds.{Holds, Under, Sees, Written}
use Rattle.record_writes.specs.Faults.{StoreFailed}
use Rattle.record_writes.proofs.Ending.{commit_fails, err_begun, failed_begun, survived_begun, survives_any}
use Rattle.record_writes.proofs.Failing.{err_later, store_still}
use Rattle.record_writes.proofs.Holding.{holds_weaker}
use Rattle.std.proofs.lemmas.Result.{on_ok_weaker}
use Rattle.record_writes.proofs.Both.{begun, under_rolled, commit_ran}
use Rattle.record_writes.proofs.group.run.Goals as goal

pub returns-in-Err-clause-law : goal.returns-in-Err-clause-law
returns-in-Err-clause-law g c clean o last members up due h =
    let end = c.rollback.new.self.0 in
    let same : end ≡ c.connection-1.given.0 = search rules in
    let late : HasCleanDisk (state g.S.Store end) = subst (λ x. HasCleanDisk (state g.S.Store x)) (sym same) clean in
    let mid = c.write_all.new.tx.conn.now in
    let mid_clean : HasCleanDisk (state g.S.Store mid) = omega (arith, c.rollback.ensures.survives.clean) in
    let began : Under (state g.S.Store c.transaction-tx.result.conn.now) o last × Sees (state g.S.Store c.transaction-tx.result.conn.now) o last =
    rw c.transaction-tx.ensures.begun (begun g.S.Store c.args.connection.now o last h up (λ it. g.met.S.Store.stays c.args.connection.now.store it)) in
    let ran = c.in-Err.ensures.law mid_clean o last last members due began.0 began.1 in
    let rolled = under_rolled (state g.S.Store mid) (state g.S.Store end) o last ran.0 (c.rollback.ensures.undone late) late c.rollback.ensures.survives in
    subst (λ x. Holds (state g.S.Store x) o last (after c.args.writes.now last) × (IsTrue (state g.S.Store x).is_open → Holds (state g.S.Store x) o last last)) same (holds_weaker _ o last (after c.args.writes.now last) rolled, λ _. rolled)

pub returns-clause-law : goal.returns-clause-law
returns-clause-law g c clean o last members up due h =
    let end = c.commit.new.self.0 in
    let same : end ≡ c.connection-2-1.given.0 = search rules in
    let late : HasCleanDisk (state g.S.Store end) = subst (λ x. HasCleanDisk (state g.S.Store x)) (sym same) clean in
    let mid = c.write_all.new.tx.conn.now in
    let mid_clean : HasCleanDisk (state g.S.Store mid) = omega (arith, c.commit.ensures.survives.clean) in
    let began : Under (state g.S.Store c.transaction-tx.result.conn.now) o last × Sees (state g.S.Store c.transaction-tx.result.conn.now) o last =
    rw c.transaction-tx.ensures.begun (begun g.S.Store c.args.connection.now o last h up (λ it. g.met.S.Store.stays c.args.connection.now.store it)) in
    let ran = c.in-Ok.ensures.law mid_clean o last last members due began.0 began.1 in
    let next = after c.args.writes.now last in
    let made = commit_ran (state g.S.Store mid) (state g.S.Store end) o last next c.commit.result ran.0 ran.1 late (λ it db left. g.met.S.Store.settled end.store db it left)
    (on_ok_weaker c.commit.result (λ d. d.1) (c.commit.ensures.ok late)) (c.commit.ensures.err late) c.commit.ensures.survives in
    subst (λ x. Written (state g.S.Store x) o last next c.commit.result) same made

pub returns-in-Err-clause-store : goal.returns-in-Err-clause-store
returns-in-Err-clause-store g c clean o last fits members up due h other =
    let old = state g.S.Store c.args.connection.now in
    let end = c.rollback.new.self.0 in
    let same : end ≡ c.connection-1.given.0 = search rules in
    let b = c.transaction-tx.result.conn.now in
    let mid = state g.S.Store c.write_all.new.tx.conn.now in
    let late : HasCleanDisk (state g.S.Store end) = subst (λ x. HasCleanDisk (state g.S.Store x)) (sym same) clean in
    let mid_clean : HasCleanDisk mid = omega (arith, c.rollback.ensures.survives.clean) in
    let began : Under (state g.S.Store b) o last × Sees (state g.S.Store b) o last =
    rw c.transaction-tx.ensures.begun (begun g.S.Store c.args.connection.now o last h up (λ it. g.met.S.Store.stays c.args.connection.now.store it)) in
    let failed = store_still (state g.S.Store b) mid (state g.S.Store end) c.rollback.ensures.survives.counts (c.in-Err.ensures.store mid_clean o last last fits members due began.0 began.1 other) in
    subst (λ x. StoreFailed old (state g.S.Store x)) same (failed_begun g.S.Store c.args.connection.now b c.transaction-tx.ensures.begun (state g.S.Store end) failed)

pub returns-clause-store : goal.returns-clause-store
returns-clause-store g c clean o last fits members up due h =
    let old = state g.S.Store c.args.connection.now in
    let end = c.commit.new.self.0 in
    let same : end ≡ c.connection-2-1.given.0 = search rules in
    let b = c.transaction-tx.result.conn.now in
    let mid = state g.S.Store c.write_all.new.tx.conn.now in
    let late : HasCleanDisk (state g.S.Store end) = subst (λ x. HasCleanDisk (state g.S.Store x)) (sym same) clean in
    let mid_clean : HasCleanDisk mid = omega (arith, c.commit.ensures.survives.clean) in
    let began : Under (state g.S.Store b) o last × Sees (state g.S.Store b) o last =
    rw c.transaction-tx.ensures.begun (begun g.S.Store c.args.connection.now o last h up (λ it. g.met.S.Store.stays c.args.connection.now.store it)) in
    let sees = (c.in-Ok.ensures.law mid_clean o last last members due began.0 began.1).1 in
    let failed = commit_fails mid (state g.S.Store end) sees.mode c.commit.result (c.commit.ensures.err late) in
    let all = err_later (state g.S.Store b) mid (state g.S.Store end) _ mid_clean c.write_all.ensures.survives c.commit.ensures.survives.counts c.commit.result failed in
    subst (λ x. IfErr c.commit.result (λ e. e ≢ SqliteFailure OutOfMemory → StoreFailed old (state g.S.Store x))) same (err_begun g.S.Store c.args.connection.now b c.transaction-tx.ensures.begun (state g.S.Store end) c.commit.result all)

pub returns-in-Err-clause-survives : goal.returns-in-Err-clause-survives
returns-in-Err-clause-survives g c =
    let end = c.rollback.new.self.0 in
    let same : end ≡ c.connection-1.given.0 = search rules in
    let b = c.transaction-tx.result.conn.now in
    let all = survives_any (state g.S.Store b) (state g.S.Store c.write_all.new.tx.conn.now) (state g.S.Store end) _ _ c.write_all.ensures.survives c.rollback.ensures.survives in
    subst (λ x. Survives (state g.S.Store c.args.connection.now) (state g.S.Store x) (λ _. Unit {0})) same (survived_begun g.S.Store c.args.connection.now b c.transaction-tx.ensures.begun (state g.S.Store end) _ all)

pub returns-clause-survives : goal.returns-clause-survives
returns-clause-survives g c =
    let end = c.commit.new.self.0 in
    let same : end ≡ c.connection-2-1.given.0 = search rules in
    let b = c.transaction-tx.result.conn.now in
    let all = survives_any (state g.S.Store b) (state g.S.Store c.write_all.new.tx.conn.now) (state g.S.Store end) _ _ c.write_all.ensures.survives c.commit.ensures.survives in
    subst (λ x. Survives (state g.S.Store c.args.connection.now) (state g.S.Store x) (λ _. Unit {0})) same (survived_begun g.S.Store c.args.connection.now b c.transaction-tx.ensures.begun (state g.S.Store end) _ all)
