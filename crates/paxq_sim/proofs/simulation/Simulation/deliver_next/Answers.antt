use Rattle.std.proofs.Common.{◌∙◌, sym}
use Rattle.paxq_sim.proofs.Leading.{delivered, passed}
use Rattle.paxq_sim.proofs.simulation.Simulation.deliver_next.Goals as goal

pub returns-then-has-clause-led : goal.returns-then-has-clause-led
returns-then-has-clause-led g c = λ failures n names done was.
    passed {A = g.row.A.Denot} g.A.Application.has_applied g.A.Application.meaning failures n names done c.args.self.now.world c.args.self.now.delivered c.args.self.now.named (sym c.has.ensures ∙ c.if-has.true) c.requires.left was

pub returns-clause-led : goal.returns-clause-led
returns-clause-led g c = λ failures n names done was.
    delivered {A = g.row.A.Denot} g.A.Application.has_applied g.A.Application.meaning failures n names done c.args.self.now.world c.happen.new.world c.args.self.now.delivered c.args.self.now.named (sym c.has.ensures ∙ c.if-has.false) c.requires.left c.in_ok-happen.ensures.applied c.in_ok-happen.ensures.happened was

pub returns-clause-members : goal.returns-clause-members
returns-clause-members g c = c.in_ok-happen.ensures.happened.members
