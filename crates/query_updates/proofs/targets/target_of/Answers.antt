use Rattle.std.proofs.Common.{sym}
use Rattle.query_updates.proofs.Found.{one_target}
use Rattle.query_updates.proofs.targets.target_of.Goals as goal

pub returns-in-Node : goal.returns-in-Node
returns-in-Node c = rw (c.in-Node.is, c.target_at.ensures, c.shelf.ensures) (sym (one_target c.args.role c.in-Node.identity c.args.run.now))
