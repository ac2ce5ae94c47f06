use Rattle.member.proofs.member.lead.Goals as goal

pub returns-clause-made : goal.returns-clause-made
returns-clause-made g c = record { nothing = c.commit.ensures.nothing; taken = c.commit.ensures.taken; begun = c.commit.ensures.begun; proposed = c.commit.ensures.proposed }
