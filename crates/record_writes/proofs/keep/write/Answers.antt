use Rattle.sqlite.specs.State.{Executes, Survives, CommitsBy}
use Rattle.sqlite.specs.Held.{state}
use Rattle.record_tables.specs.Texts.{keep_text}
use Rattle.record_writes.proofs.Inserted.{keep_params}
use Rattle.record_writes.proofs.Faulty.{any_left, err_known}
use Rattle.record_writes.proofs.Holding.{holds_stored, learnt_written}
use Rattle.record_writes.proofs.KeepFaults.{keep_failed}
use Rattle.record_writes.proofs.keep.write.Goals as goal

pub returns-clause-law : goal.returns-clause-law
returns-clause-law g c clean text up o last v is good next h =
    let before = state g.S.Store c.args.connection.now in
    let after = state g.S.Store c.execute.new.conn in
    let params = keep_params c.args.position v in
    let ran : Executes keep_text params before after c.execute.result = rw (text, c.params-to_sql.ensures, c.params-to_sql-2.ensures, is) at (c.execute.ensures.runs clean) in
    let survives : Survives before after (CommitsBy keep_text params before) = rw (text, c.params-to_sql.ensures, c.params-to_sql-2.ensures, is) at c.execute.ensures.survives in
    learnt_written before after o last c.args.position v next c.requires.most good h up (λ it. g.met.S.Store.stays c.args.connection.now.store it) c.execute.result clean (λ it db left. g.met.S.Store.settled c.execute.new.conn.store db it left) survives ran

pub returns-clause-store : goal.returns-clause-store
returns-clause-store g c clean text up o last v is good next h =
    let before = state g.S.Store c.args.connection.now in
    let after = state g.S.Store c.execute.new.conn in
    let ran : Executes keep_text (keep_params c.args.position v) before after c.execute.result = rw (text, c.params-to_sql.ensures, c.params-to_sql-2.ensures, is) at (c.execute.ensures.runs clean) in
    let it = holds_stored before o last h up (λ up. g.met.S.Store.stays c.args.connection.now.store up) in
    keep_failed before after c.args.position v good last.learnt it.kept next c.requires.most (h.known up) c.execute.result ran

pub returns-clause-known : goal.returns-clause-known
returns-clause-known g c clean o last h = err_known (state g.S.Store c.args.connection.now) (state g.S.Store c.execute.new.conn) o last h _ _ c.execute.result (c.execute.ensures.runs clean)

pub returns-clause-survives : goal.returns-clause-survives
returns-clause-survives g c = any_left (state g.S.Store c.args.connection.now) (state g.S.Store c.execute.new.conn) _ c.execute.ensures.survives
