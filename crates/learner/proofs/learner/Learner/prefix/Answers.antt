use Rattle.std.proofs.Common.{◌∙◌, ap, is_some}
use Rattle.ballots.specs.Values.{positions}
use Rattle.learner.proofs.Learning.{run_prefix, run_same}
use Rattle.learner.proofs.learner.Learner.prefix.Goals as goal

pub returns-clause-longest : goal.returns-clause-longest
returns-clause-longest c = rw (← c.self.view_is) (run_prefix c.self.inside.chosen c.run_end.result c.self.invariant.1 c.run_end.ensures)

pub returns-clause-heard : goal.returns-clause-heard
returns-clause-heard c = λ heard h. returns-clause-longest c ∙ run_same _ _ (λ p. ap is_some (h.learnt p)) positions 0
