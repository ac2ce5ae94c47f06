use Rattle.std.proofs.Common.{◌≢◌, rules}
use Rattle.sqlite.specs.Held.{state}
use Rattle.record_tables.specs.Texts.{no_schema, schema_1}
use Rattle.record_tables.specs.declared.version.Version.TheVariants.{Second}
use Rattle.sql_records.specs.Faults.{HoldsNone}
use Rattle.sql_records.proofs.Refused.{damaged_else}
use Rattle.sql_records.proofs.Undone.{any_err}
use Rattle.sql_records.proofs.opening.prepare.Goals as goal

pub returns-then-is_first-clause-damaged : goal.returns-then-is_first-clause-damaged
returns-then-is_first-clause-damaged g c clean is mode = c.upgrade.ensures.damaged clean is

pub returns-clause-damaged : goal.returns-clause-damaged
returns-clause-damaged g c clean is mode =
    let old = state g.S.Store c.args.connection.now in
    let some : old.now.schema ≢ no_schema = λ empty. absurd (let yes = c.is_new.ensures.empty mode empty in let no = c.if-is_new.false in cc) in
    let other : old.now.schema ≢ schema_1 = λ first. absurd (let yes = c.is_first.ensures.first mode first in let no = c.if-is_first.false in cc) in
    let none : HoldsNone Second c.args.setup.now old.now = c.load.ensures.damaged clean (search rules) mode in
    damaged_else c.args.setup.now old.now some other none

pub returns-clause-back : goal.returns-clause-back
returns-clause-back g c clean = any_err c.load.result (c.load.ensures.back clean)
