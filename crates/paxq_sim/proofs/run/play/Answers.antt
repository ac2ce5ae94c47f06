use Rattle.std.proofs.Common.{[], subst, sym}
use Rattle.paxos.specs.World.{World as Whole}
use Rattle.world.specs.Shown.{Shows}
use Rattle.paxq_sim.specs.Going.{Comes, HasCome}
use Rattle.paxq_sim.specs.Play.{Plays, opening}
use Rattle.paxq_sim.proofs.Leading.{one_of}
use Rattle.paxq_sim.proofs.run.play.Goals as goal

pub returns : goal.returns
returns g c =
    let n = c.args.file.group.members in
    let names = c.args.file.group.names in
    let end = c.play.new.self in
    let failures = c.args.file.failures.items in
    let come = c.in_ok-play.ensures.played failures n names (subst (λ fs. HasCome {A = g.row.A.Denot} g.A.Application.has_applied g.A.Application.meaning fs n names [] c.in_ok-simulation.simulation.world c.in_ok-simulation.simulation.delivered c.in_ok-simulation.simulation.named) c.deref.ensures.value c.in_ok-simulation.ensures.begun) in
    let one = one_of {A = g.row.A.Denot} g.A.Application.has_applied end.world (Comes {A = g.row.A.Denot} (g.A.Application.meaning names) failures n c.deref-2.result.now end.world end.delivered end.named) come.2 in (
      come.0,
      come.1,
      one.1.progress,
      subst (λ commands. Plays (g.A.Application.meaning names) failures (opening n) commands one.1.progress) c.deref-2.ensures.value one.1.plays,
      one.2,
      subst (λ (v : Whole). Shows {A = g.row.A.Denot} g.A.Application.has_applied end.world one.2 v) (sym one.1.world_is) one.3,
    )
