use Rattle.std.proofs.Common.{inl}
use Rattle.sqlite.specs.Held.{state}
use Rattle.sql_records.proofs.Judged.{unchanged}
use Rattle.sql_records.proofs.learnt.load_kept.Goals as goal

pub returns-in-First-clause-same : goal.returns-in-First-clause-same
returns-in-First-clause-same g c clean = unchanged (state g.S.Store c.args.connection.now) (c.requires.open clean)

pub returns-in-First-clause-ended : goal.returns-in-First-clause-ended
returns-in-First-clause-ended g c clean = inl (unchanged (state g.S.Store c.args.connection.now) (c.requires.open clean))
