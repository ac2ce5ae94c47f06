use Rattle.paxq_local.proofs.Giving.{nothing-none}
use Rattle.paxq_local.proofs.client.Client.try_again.Goals as goal

pub returns-else-turn-gt0-clause-given : goal.returns-else-turn-gt0-clause-given
returns-else-turn-gt0-clause-given g c = nothing-none g.W.Wire.was_given c.args.wire.now
