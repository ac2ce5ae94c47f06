use Rattle.paxq_local.proofs.Giving.{nothing-none}
use Rattle.paxq_local.proofs.group.Group.hand.Goals as goal

pub returns-then-arrival-eq0-clause-given : goal.returns-then-arrival-eq0-clause-given
returns-then-arrival-eq0-clause-given g c = nothing-none g.W.Wire.was_given c.args.wire.now

pub returns-in_default-clause-given : goal.returns-in_default-clause-given
returns-in_default-clause-given g c = nothing-none g.W.Wire.was_given c.args.wire.now
