use Rattle.sqlite.specs.Held.{state}
use Rattle.sql_records.proofs.Raising.{version_failed, version_set}
use Rattle.std.proofs.Common.{refl}
use Rattle.sql_records.proofs.Undone.{keeps_by}
use Rattle.sql_records.proofs.migration.set_version.Goals as goal

pub returns-clause-made : goal.returns-clause-made
returns-clause-made g c clean db r it m =
    version_set (state g.S.Store c.args.tx.now.conn.now) (state g.S.Store c.execute.new.self.conn.now) c.args.setup.now db r it m c.execute.result (c.execute.ensures.runs clean m.mode)

pub returns-clause-store : goal.returns-clause-store
returns-clause-store g c clean db r it m =
    version_failed (state g.S.Store c.args.tx.now.conn.now) (state g.S.Store c.execute.new.self.conn.now) c.args.setup.now db r it m c.are_names.ensures c.execute.result (c.execute.ensures.runs clean m.mode)

pub returns-clause-undone : goal.returns-clause-undone
returns-clause-undone g c clean = keeps_by g.S.Store c.args.tx.now.conn.now c.execute.new.self.conn.now _ _ c.execute.result _ refl (c.execute.ensures.runs clean) (λ none. (c.execute.ensures.ended none).1)
