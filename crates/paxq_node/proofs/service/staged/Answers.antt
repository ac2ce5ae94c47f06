use Rattle.paxq_node.proofs.service.staged.Goals as goal

pub returns-in-Ok-open-clause-sound : goal.returns-in-Ok-open-clause-sound
returns-in-Ok-open-clause-sound g c = c.in-Ok-open.ensures.suits c.args.setup.now.members c.in-Ok.ensures.suits
