use Rattle.std.proofs.Common.{◌∙◌, refl, arith}
use Rattle.paxq_sim.proofs.Leading.{delivering, ended}
use Rattle.paxq_sim.proofs.simulation.Simulation.deliver_all.Goals as goal

pub loop-self-init : goal.loop-self-init
loop-self-init g c = (refl, λ failures n names done was. delivering {A = g.row.A.Denot} g.A.Application.has_applied g.A.Application.meaning failures n names done c.args.self.now.world c.args.self.now.delivered c.args.self.now.named was)

pub loop-self-preserved : goal.loop-self-preserved
loop-self-preserved g c = (
  c.in_ok-deliver_next.ensures.members ∙ c.loop-self.invariant.0,
  λ failures n names done was. c.in_ok-deliver_next.ensures.led failures n names done (c.loop-self.invariant.1 failures n names done was),
)

pub returns-clause-taken : goal.returns-clause-taken
returns-clause-taken g c = λ failures n names done was.
    ended {A = g.row.A.Denot} g.A.Application.has_applied g.A.Application.meaning failures n names done c.loop-self.self.world c.loop-self.self.delivered c.loop-self.self.named c.clear.new.self c.clear.ensures (omega (arith, c.loop-self-test.false, c.messages.ensures))
    (c.loop-self.invariant.1 failures n names done was)
