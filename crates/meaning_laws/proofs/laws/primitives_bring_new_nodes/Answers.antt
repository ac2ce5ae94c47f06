use Rattle.meaning_laws.proofs.Whole.{standing}
use Rattle.meaning_laws.proofs.laws.primitives_bring_new_nodes.Goals as goal

pub returns : goal.returns
returns c = λ x lent o forest h. (standing x lent o forest h).new
