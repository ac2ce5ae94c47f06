use Rattle.program_reports.proofs.Reported.{ok-gives}
use Rattle.paxq_sim.proofs.run.simulate.Goals as goal

pub returns : goal.returns
returns g c =
    let played = c.in_ok-world.ensures in
    ok-gives c.report.result c.report.ensures (λ text h. (played.2, played.3, h played.4 played.2.state.world played.5))
