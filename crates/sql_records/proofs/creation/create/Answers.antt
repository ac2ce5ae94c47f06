use Rattle.std.proofs.Common.{◌≡◌, arith, rules, sym, subst}
use Rattle.sqlite.specs.State.{HasCleanDisk}
use Rattle.sqlite.specs.Held.{state}
use Rattle.sql_records.specs.Opened.{IsAsBefore}
use Rattle.sql_records.proofs.Undone.{back_rolled}
use Rattle.sql_records.proofs.creation.create.Goals as goal

pub returns-in-Err-clause-back : goal.returns-in-Err-clause-back
returns-in-Err-clause-back g c clean =
    let h = c.args.connection.now in
    let begun = c.transaction-tx.ensures.begun in
    let b = c.transaction-tx.result.conn.now in
    let mid = c.fill.new.tx.conn.now in
    let end = c.rollback.new.self.0 in
    let same : end ≡ c.connection-1.given.0 = search rules in
    let late : HasCleanDisk (state g.S.Store end) = subst (λ x. HasCleanDisk (state g.S.Store x)) (sym same) clean in
    let mid_clean : HasCleanDisk (state g.S.Store mid) = omega (arith, c.rollback.ensures.survives.clean) in
    subst (λ x. IsAsBefore (state g.S.Store h) (state g.S.Store x)) same (back_rolled g.S.Store h b begun c.requires.mode c.requires.settled (state g.S.Store mid) (state g.S.Store end) (c.fill.ensures.undone mid_clean) (c.rollback.ensures.undone late))
