use Rattle.std.proofs.Common.{arith}
use Rattle.paxq_local.proofs.Giving.{given-none, if_err}
use Rattle.paxq_local.proofs.send.ask_with_room.Goals as goal

pub returns-in_err-buffer-clause-sent : goal.returns-in_err-buffer-clause-sent
returns-in_err-buffer-clause-sent g c = (0, omega arith, given-none g.W.Wire.was_given c.args.wire.now, if_err _ c.from_residual.result c.from_residual.ensures.0)
