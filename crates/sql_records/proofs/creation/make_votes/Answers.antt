use Rattle.sqlite.specs.Held.{state}
use Rattle.sql_records.proofs.Creating.{votes_made}
use Rattle.sql_records.proofs.CreationFaults.{votes_failed}
use Rattle.std.proofs.Common.{refl}
use Rattle.sql_records.proofs.Undone.{keeps_by}
use Rattle.sql_records.proofs.creation.make_votes.Goals as goal

pub returns-clause-made : goal.returns-clause-made
returns-clause-made g c clean m =
    votes_made (state g.S.Store c.args.tx.now.conn.now) (state g.S.Store c.execute.new.self.conn.now) c.execute.result m (c.execute.ensures.runs clean m.mode)

pub returns-clause-store : goal.returns-clause-store
returns-clause-store g c clean m =
    votes_failed (state g.S.Store c.args.tx.now.conn.now) (state g.S.Store c.execute.new.self.conn.now) c.execute.result m (c.execute.ensures.runs clean m.mode)

pub returns-clause-undone : goal.returns-clause-undone
returns-clause-undone g c clean = keeps_by g.S.Store c.args.tx.now.conn.now c.execute.new.self.conn.now _ _ c.execute.result _ refl (c.execute.ensures.runs clean) (λ none. (c.execute.ensures.ended none).1)
