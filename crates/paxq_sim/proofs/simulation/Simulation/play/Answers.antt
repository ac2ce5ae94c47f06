use Rattle.std.proofs.Common.{◌∙◌, length, refl, sym, subst, take, take_all}
use Rattle.std.proofs.lemmas.Option.{slice_get_read}
use Rattle.world.proofs.Straightly.{take_step}
use Rattle.paxq_sim.specs.Going.{HasCome}
use Rattle.paxq_sim.proofs.simulation.Simulation.play.Goals as goal

pub loop-command-preserved : goal.loop-command-preserved
loop-command-preserved g c =
    let commands = c.args.commands.now in
    let before = c.loop-command.command-index in
    let command = c.command-item.result in
    let new = c.take.new.self in (
      c.in_ok-take.ensures.members ∙ c.loop-command.invariant.0,
      λ failures n names was.
          subst (λ done. HasCome {A = g.row.A.Denot} g.A.Application.has_applied g.A.Application.meaning failures n names done new.world new.delivered new.named) (sym (take_step commands before command (slice_get_read commands (length commands) before command refl c.loop-command-test.true c.command-item.is)))
          (c.in_ok-take.ensures.taken failures n names (take before commands) (c.loop-command.invariant.1 failures n names was)),
    )

pub returns : goal.returns
returns g c = record {
  played = λ failures n names was.
      let end = c.loop-command.self in
      subst (λ done. HasCome {A = g.row.A.Denot} g.A.Application.has_applied g.A.Application.meaning failures n names done end.world end.delivered end.named) (take_all c.loop-command.command-index c.args.commands.now c.loop-command-test.false) (c.loop-command.invariant.1 failures n names was);
}
