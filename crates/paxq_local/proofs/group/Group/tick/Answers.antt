use Rattle.paxq_local.proofs.Giving.{nothing-none, nothing-on}
use Rattle.paxq_local.proofs.group.Group.tick.Goals as goal

pub loop-member-init : goal.loop-member-init
loop-member-init g c = record { brought = λ ds h. h; given = nothing-none g.W.Wire.was_given c.args.wire.now }

pub loop-member-preserved : goal.loop-member-preserved
loop-member-preserved g c = record {
  brought = λ ds h. c.tick.ensures.brought ds (c.loop-member.invariant.brought ds h);
  given = nothing-on g.W.Wire.was_given c.args.wire.now c.loop-member.wire c.tick.new.wire c.loop-member.invariant.given c.tick.ensures.given;
}
