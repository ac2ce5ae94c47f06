use Rattle.paxq_local.proofs.Giving.{nothing-none}
use Rattle.paxq_local.proofs.group.Group.begin.Goals as goal

pub returns-in_default-clause-given : goal.returns-in_default-clause-given
returns-in_default-clause-given g c = nothing-none g.W.Wire.was_given c.args.wire.now
