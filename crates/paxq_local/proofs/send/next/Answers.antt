use Rattle.paxq_local.proofs.Brought.{came-to-client}
use Rattle.paxq_local.proofs.send.next.Goals as goal

pub returns-then-arrival-eq0-clause-brought : goal.returns-then-arrival-eq0-clause-brought
returns-then-arrival-eq0-clause-brought g c =
    came-to-client g.W.Wire.has_brought c.args.wire.now c.loop-datagram.wire c.receive.new.self c.receive.result c.in-Ok-Some.field-0 c.receive.new.buffer c.in-Ok-Some.arrival
    c.loop-datagram.invariant.0 c.receive.ensures.brought c.in-Ok-Some.is c.in-Ok-Some.field-0-is c.if-arrival-eq0.true
