use Rattle.std.proofs.Common.{arith, rules}
use Rattle.sqlite.specs.Held.{state}
use Rattle.record_tables.specs.declared.version.Version.TheVariants.{First}
use Rattle.sql_records.specs.Faults.{HoldsNone}
use Rattle.sql_records.proofs.Refused.{damaged}
use Rattle.sqlite.specs.State.{HasCleanDisk}
use Rattle.sql_records.proofs.Undone.{any_err, back_both, back_unchanged}
use Rattle.sql_records.proofs.opening.upgrade.Goals as goal

pub returns-in_err-record-clause-damaged : goal.returns-in_err-record-clause-damaged
returns-in_err-record-clause-damaged g c clean is =
    let old = state g.S.Store c.args.connection.now in
    let none : HoldsNone First c.args.setup.now old.now = c.read.ensures.damaged clean (search rules) c.requires.mode in
    damaged c.args.setup.now old.now First c.requires.first none

pub returns-in_err-record-clause-back : goal.returns-in_err-record-clause-back
returns-in_err-record-clause-back g c clean = any_err c.from_residual.result (c.read.ensures.back clean)

pub returns-in_err-migrate-clause-back : goal.returns-in_err-migrate-clause-back
returns-in_err-migrate-clause-back g c clean =
    let old = state g.S.Store c.args.connection.now in
    let mid = state g.S.Store c.read.new.connection in
    let new = state g.S.Store c.migrate.new.connection in
    let mid_clean : HasCleanDisk mid = omega (arith, clean, c.migrate.ensures.clean) in
    any_err c.from_residual-in_err-migrate.result (back_both old mid new (back_unchanged old mid (c.in_ok-record.ensures.same mid_clean)) (c.in_err-migrate.ensures.back clean))
