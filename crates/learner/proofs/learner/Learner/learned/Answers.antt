use Rattle.std.proofs.Common.{◌∙◌, sym}
use Rattle.position_map.specs.Slots.{filled}
use Rattle.learner.proofs.Learning.{value_pairs}
use Rattle.learner.proofs.learner.Learner.learned.Goals as goal

pub returns-clause-value : goal.returns-clause-value
returns-clause-value c = rw (← c.self.view_is) (c.get.ensures.value ∙ sym (value_pairs c.args.position (filled c.self.inside.chosen)))

pub returns-clause-heard : goal.returns-clause-heard
returns-clause-heard c = λ heard h. returns-clause-value c ∙ h.learnt c.args.position
