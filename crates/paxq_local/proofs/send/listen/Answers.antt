use Rattle.std.proofs.Common.{take, string_bytes}
use Rattle.paxq_local.specs.Told.{told_by_one}
use Rattle.paxq_local.proofs.Saying.{brings-said}
use Rattle.paxq_local.proofs.send.listen.Goals as goal

pub returns-in-Some-2-clause-said : goal.returns-in-Some-2-clause-said
returns-in-Some-2-clause-said g c =
    brings-said g.W.Wire.has_brought c.args.wire.now c.loop-datagram.wire c.next.new.wire (take c.in-Some.length c.next.new.buffer) (told_by_one c.args.asked.now.form) c.args.group c.args.asked.now.id
    c.in_ok-said.field-0 c.in-Some-2.said (λ s. string_bytes s.text) c.loop-datagram.invariant.0 c.in-Some.ensures.brought c.in_ok-said.ensures c.in-Some-2.is
