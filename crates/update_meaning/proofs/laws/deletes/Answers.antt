use Rattle.update_meaning.proofs.Deletes.{any-order, once}
use Rattle.update_meaning.proofs.laws.deletes.Goals as goal

pub returns-clause-order : goal.returns-clause-order
returns-clause-order c = any-order

pub returns-clause-once : goal.returns-clause-once
returns-clause-once c = once
