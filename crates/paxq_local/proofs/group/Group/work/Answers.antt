use Rattle.paxq_local.proofs.Brought.{brings-none, brings-received, came-from}
use Rattle.paxq_local.proofs.Giving.{nothing-none, nothing-on, nothing-over, nothing-still}
use Rattle.wires.specs.Wires.{carried_in}
use Rattle.paxq_local.proofs.group.Group.work.Goals as goal

pub loop-datagram-init : goal.loop-datagram-init
loop-datagram-init g c = record { brings = brings-none g.W.Wire.has_brought c.args.wire.now (λ _. Unit {0}) tt; given = nothing-none g.W.Wire.was_given c.args.wire.now }

pub loop-datagram-preserved : goal.loop-datagram-preserved
loop-datagram-preserved g c = record {
  brings = brings-received g.W.Wire.has_brought c.args.wire.now c.loop-datagram.wire c.receive.new.self c.is_over.new.wire (carried_in c.receive.result c.receive.new.buffer) c.loop-datagram.invariant.brings c.receive.ensures.brought
      (λ ds h. c.is_over.ensures.brought ds (c.hand.ensures.brought ds h));
  given = nothing-over g.W.Wire.was_given c.args.wire.now c.receive.new.self c.hand.new.wire c.is_over.new.wire
      (nothing-on g.W.Wire.was_given c.args.wire.now c.loop-datagram.wire c.receive.new.self c.loop-datagram.invariant.given (nothing-still g.W.Wire.was_given c.loop-datagram.wire c.receive.new.self c.receive.ensures.given)) c.hand.ensures.given c.is_over.ensures.given;
}

pub returns-in_default-clause-given : goal.returns-in_default-clause-given
returns-in_default-clause-given g c = nothing-on g.W.Wire.was_given c.args.wire.now c.loop-datagram.wire c.receive.new.self c.loop-datagram.invariant.given (nothing-still g.W.Wire.was_given c.loop-datagram.wire c.receive.new.self c.receive.ensures.given)

pub returns-then-arrival-eq0-clause-given : goal.returns-then-arrival-eq0-clause-given
returns-then-arrival-eq0-clause-given g c = nothing-on g.W.Wire.was_given c.args.wire.now c.loop-datagram.wire c.receive.new.self c.loop-datagram.invariant.given (nothing-still g.W.Wire.was_given c.loop-datagram.wire c.receive.new.self c.receive.ensures.given)

pub returns-then-arrival-eq0-clause-brought : goal.returns-then-arrival-eq0-clause-brought
returns-then-arrival-eq0-clause-brought g c =
    came-from g.W.Wire.has_brought c.args.wire.now c.loop-datagram.wire c.receive.new.self c.receive.result c.in-Ok-Some.field-0 c.receive.new.buffer c.in-Ok-Some.arrival
    c.loop-datagram.invariant.brings c.receive.ensures.brought c.in-Ok-Some.is c.in-Ok-Some.field-0-is c.if-arrival-eq0.true

pub returns-then-is_over-clause-given : goal.returns-then-is_over-clause-given
returns-then-is_over-clause-given g c =
    nothing-over g.W.Wire.was_given c.args.wire.now c.receive.new.self c.hand.new.wire c.is_over.new.wire
    (nothing-on g.W.Wire.was_given c.args.wire.now c.loop-datagram.wire c.receive.new.self c.loop-datagram.invariant.given (nothing-still g.W.Wire.was_given c.loop-datagram.wire c.receive.new.self c.receive.ensures.given)) c.hand.ensures.given c.is_over.ensures.given

pub returns-then-is_over-clause-brought : goal.returns-then-is_over-clause-brought
returns-then-is_over-clause-brought g c =
    brings-received g.W.Wire.has_brought c.args.wire.now c.loop-datagram.wire c.receive.new.self c.is_over.new.wire (carried_in c.receive.result c.receive.new.buffer) c.loop-datagram.invariant.brings c.receive.ensures.brought
    (λ ds h. c.is_over.ensures.brought ds (c.hand.ensures.brought ds h))
