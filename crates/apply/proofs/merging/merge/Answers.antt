use Rattle.apply.proofs.Calls.{takes-none}
use Rattle.apply.proofs.merging.merge.Goals as goal

pub returns-in-None-clause-merges : goal.returns-in-None-clause-merges
returns-in-None-clause-merges c = takes-none c.args.id c.args.draft.now.draft.after c.facts.ensures.distinct c.in-None.ensures
