use Rattle.std.proofs.Common.{Err, ap}
use Rattle.sql_records.proofs.store.SqlRecords.open.Goals as goal

pub returns-in-Ok-prepare-clause-found : goal.returns-in-Ok-prepare-clause-found
returns-in-Ok-prepare-clause-found g c = rw (c.new.ensures, ← c.in-Ok.ensures.same) (λ differs clean. (_, c.in-Ok-prepare.ensures.holds clean, c.in-Ok-prepare.ensures.found clean differs))

pub returns-in-Ok-prepare-clause-opens : goal.returns-in-Ok-prepare-clause-opens
returns-in-Ok-prepare-clause-opens g c = rw (c.new.ensures, ← c.in-Ok.ensures.same) c.in-Ok-prepare.ensures.opens

pub returns-in-Err-prepare-clause-damaged : goal.returns-in-Err-prepare-clause-damaged
returns-in-Err-prepare-clause-damaged g c = rw (← c.in-Ok.ensures.same) (λ mode clean is. c.in-Err-prepare.ensures.damaged clean (ap Err is) mode)
