use Rattle.std.proofs.Common.{[], arith, subst, sym}
use Rattle.records.specs.Script.{Script, fates_of}
use Rattle.world.specs.Placed.{AreOf}
use Rattle.paxq_sim.specs.Going.{HasCome}
use Rattle.paxq_sim.proofs.Leading.{all_kept, begun}
use Rattle.paxq_sim.proofs.simulation.Simulation.begin.Goals as goal

pub new-requires-clause-many : goal.new-requires-clause-many
new-requires-clause-many g c = c.in_ok-stores.ensures.many

pub new-requires-clause-unwritten : goal.new-requires-clause-unwritten
new-requires-clause-unwritten g c = λ r h kept. c.in_ok-stores.ensures.unwritten r h

pub returns-in-Ok-clause-begun : goal.returns-in-Ok-clause-begun
returns-in-Ok-clause-begun g c =
    let group = c.args.group.now in
    let w = c.in-Ok.world in
    subst (λ named. HasCome {A = g.row.A.Denot} g.A.Application.has_applied g.A.Application.meaning c.args.failures.now group.members group.names [] w 0 named) (sym c.new-in-Ok.ensures)
    (begun {A = g.row.A.Denot} g.A.Application.has_applied g.A.Application.meaning c.args.failures.now group.members group.names w c.in-Ok.ensures.members c.in-Ok.ensures.names (omega (arith, c.count-count.ensures.least, c.count-count.ensures.most))
    (subst (AreOf {R = Script} {A = g.row.A.Denot} fates_of w.seats) c.in_ok-stores.ensures.stores c.in-Ok.ensures.stores) (c.in-Ok.ensures.reached (all_kept {A = g.row.A.Denot} w)))
