use Rattle.paxq_sim.proofs.simulation.happen.Goals as goal

pub returns-then-all_applied-clause-applied : goal.returns-then-all_applied-clause-applied
returns-then-all_applied-clause-applied g c = c.all_applied.ensures.all c.if-all_applied.true
