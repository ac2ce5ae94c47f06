use Rattle.std.proofs.Common.{[], ◌∷◌, ◌++◌, sym, subst}
use Rattle.event_files.specs.declared.command.Command.{Command}
use Rattle.world.proofs.Given.{ok_so}
use Rattle.paxq_sim.specs.Going.{HasCome}
use Rattle.paxq_sim.proofs.simulation.Simulation.take.Goals as goal

pub returns-in-Happens-clause-taken : goal.returns-in-Happens-clause-taken
returns-in-Happens-clause-taken g c =
    let new = c.happen.new.self in
    ok_so c.happen.result _ _
    (λ taken failures n names done was. subst (λ (command : Command). HasCome {A = g.row.A.Denot} g.A.Application.has_applied g.A.Application.meaning failures n names (done ++ command ∷ []) new.world new.delivered new.named) (sym c.in-Happens.is) (taken failures n names done was))
    c.happen.ensures.taken

pub returns-in-DeliverAll-clause-taken : goal.returns-in-DeliverAll-clause-taken
returns-in-DeliverAll-clause-taken g c =
    let new = c.deliver_all.new.self in
    ok_so c.deliver_all.result _ _
    (λ taken failures n names done was. subst (λ (command : Command). HasCome {A = g.row.A.Denot} g.A.Application.has_applied g.A.Application.meaning failures n names (done ++ command ∷ []) new.world new.delivered new.named) (sym c.in-DeliverAll.is) (taken failures n names done was))
    c.deliver_all.ensures.taken
