use Rattle.std.proofs.Common.{◌≡◌}
use Rattle.sqlite.specs.Held.{state}
use Rattle.record_writes.proofs.Faulty.{look_failed}
use Rattle.record_writes.proofs.Holding.{prepared, quiet, was_open}
use Rattle.record_writes.proofs.promise.look.Goals as goal

pub returns-clause-holds : goal.returns-clause-holds
returns-clause-holds g c clean o a b h =
    quiet (state g.S.Store c.args.connection.now) (state g.S.Store c.prepare.new.self) o a b h
    (prepared _ _ (λ s. s.text ≡ c.args.text.now) c.args.text.now c.prepare.result (c.prepare.ensures.ok clean) (c.prepare.ensures.err clean)) clean c.prepare.ensures.survives

pub returns-clause-was_open : goal.returns-clause-was_open
returns-clause-was_open g c clean =
    was_open (state g.S.Store c.args.connection.now) (state g.S.Store c.prepare.new.self)
    (prepared _ _ (λ s. s.text ≡ c.args.text.now) c.args.text.now c.prepare.result (c.prepare.ensures.ok clean) (c.prepare.ensures.err clean))

pub returns-clause-store : goal.returns-clause-store
returns-clause-store g c clean ours known =
    look_failed (state g.S.Store c.args.connection.now) (state g.S.Store c.prepare.new.self) c.args.text.now ours known c.prepare.result (c.prepare.ensures.err clean)
