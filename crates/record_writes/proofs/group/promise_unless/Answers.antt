use Rattle.std.proofs.Common.{rules}
use Rattle.record_writes.proofs.group.promise_unless.Goals as goal

pub returns-clause-law : goal.returns-clause-law
returns-clause-law g c clean o last now known within over u see = c.in_ok-first.ensures.law clean o last now within over u see

pub returns-in_err-first-clause-store : goal.returns-in_err-first-clause-store
returns-in_err-first-clause-store g c clean o now fits see = let failed = c.in_err-first.ensures.store clean o now fits see in search (rules, failed)
