use Rattle.member.proofs.Resuming.{run_most}
use Rattle.member.proofs.member.Member.prefix.Goals as goal

pub returns-clause-most : goal.returns-clause-most
returns-clause-most g c = run_most c.self.inside.learner c.prefix.result c.prefix.ensures.longest
