use Rattle.paxq_node.proofs.service.open_in_database.Goals as goal

pub returns-in-Ok-clause-sound : goal.returns-in-Ok-clause-sound
returns-in-Ok-clause-sound g c = c.in-Ok.ensures.suits c.args.setup.members c.in_ok-records.ensures.sound
