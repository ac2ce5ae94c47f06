use Rattle.paxq_local.proofs.Giving.{nothing-none, nothing-still}
use Rattle.paxq_local.proofs.Silent.{gives-nothing, placed-on}
use Rattle.paxq_local.proofs.group.Member.tick.Goals as goal

pub returns-then-not-serves-clause-given : goal.returns-then-not-serves-clause-given
returns-then-not-serves-clause-given g c = nothing-none g.W.Wire.was_given c.args.wire.now

pub returns-in-Ok-clause-given : goal.returns-in-Ok-clause-given
returns-in-Ok-clause-given g c =
    gives-nothing g.W.Wire.was_given g.W.Wire.has_brought c.args.self.now.server.server c.tick.new.self.server c.args.wire.now c.tick.new.wire _ c.in-Ok.ensures.went.3
    (c.serves.ensures.placed c.if-not-serves.false) (c.serves.ensures.holds_nothing c.if-not-serves.false) c.in-Ok.ensures.acknowledged

pub returns-in-Err-clause-given : goal.returns-in-Err-clause-given
returns-in-Err-clause-given g c = nothing-still g.W.Wire.was_given c.args.wire.now c.tick.new.wire c.in-Err.ensures.unsent

pub invariant_of-self : goal.invariant_of-self
invariant_of-self g c = record {
  placed = λ serves. placed-on g.W.Wire.was_given g.W.Wire.has_brought c.args.self.now.server.server c.tick.new.self.server c.args.wire.now c.tick.new.wire _ c.in-Ok.ensures.went.3 (c.serves.ensures.placed c.if-not-serves.false);
}
