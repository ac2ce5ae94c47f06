use Rattle.sqlite.specs.State.{ExecutesInside}
use Rattle.sqlite.specs.Held.{state}
use Rattle.record_tables.specs.Texts.{keep_text}
use Rattle.record_writes.proofs.Inserted.{keep_params}
use Rattle.record_writes.proofs.Both.{learnt_ran}
use Rattle.record_writes.proofs.KeepFaults.{keep_failed_inside}
use Rattle.record_writes.proofs.group.third.Goals as goal

pub returns-clause-law : goal.returns-clause-law
returns-clause-law g c clean o last now v is good next u see =
    let before = state g.S.Store c.args.tx.now.conn.now in
    let after = state g.S.Store c.execute.new.self.conn.now in
    let ran : ExecutesInside 0 keep_text (keep_params c.args.position v) before after c.execute.result = rw (c.params-to_sql.ensures, c.params-to_sql-2.ensures, is) at (c.execute.ensures.runs clean see.mode) in
    learnt_ran before after o last now c.args.position v c.execute.result next c.requires.most good u see clean c.execute.ensures.survives ran

pub returns-clause-store : goal.returns-clause-store
returns-clause-store g c clean o now v is good next see =
    let before = state g.S.Store c.args.tx.now.conn.now in
    let after = state g.S.Store c.execute.new.self.conn.now in
    let ran : ExecutesInside 0 keep_text (keep_params c.args.position v) before after c.execute.result = rw (c.params-to_sql.ensures, c.params-to_sql-2.ensures, is) at (c.execute.ensures.runs clean see.mode) in
    keep_failed_inside before after c.args.position v good now.learnt see.stored.kept next c.requires.most see.known c.execute.result ran
