use Rattle.std.proofs.Common.{◌∙◌, ◌||◌}
use Rattle.world.proofs.Given.{ok_so}
use Rattle.paxq_sim.specs.Play.{is_among, named_in}
use Rattle.paxq_sim.proofs.Leading.{event_led, ok_both}
use Rattle.paxq_sim.proofs.simulation.Simulation.happen.Goals as goal

pub returns-clause-taken : goal.returns-clause-taken
returns-clause-taken g c =
    let x = c.args.self.now in
    ok_both c.happen.result _ _ _
    (λ applied happened failures n names done was.
    event_led {A = g.row.A.Denot} g.A.Application.has_applied g.A.Application.meaning failures n names done c.args.event.now x.world c.happen.new.world x.delivered x.named c.note.new.self
    (λ k. c.in_ok-note.ensures k ∙ (λ i. is_among x.named k || is_among (named_in x.delivered (c.messages-sent.ensures i) c.args.event.now) k))
    applied happened was)
    c.happen.ensures.applied c.happen.ensures.happened

pub returns-clause-members : goal.returns-clause-members
returns-clause-members g c = ok_so c.happen.result _ _ (λ f. f.members) c.happen.ensures.happened
