use Rattle.paxq_run.proofs.Sites.{opens}
use Rattle.paxq_run.proofs.lone.opened.Goals as goal

pub returns-in-Ok-open-clause-runs : goal.returns-in-Ok-open-clause-runs
returns-in-Ok-open-clause-runs c = opens c.in-Ok-open.node c.in-Ok-open.field-0-1 c.in-Ok.setup.members c.new-2.result c.new-2.ensures.empty (c.in-Ok-open.ensures.loaded tt) c.in-Ok-open.ensures.started
