use Rattle.meaning_laws.proofs.Whole.{standing}
use Rattle.meaning_laws.proofs.laws.nodes_stand.Goals as goal

pub returns-clause-few : goal.returns-clause-few
returns-clause-few c = λ x lent o forest h. (standing x lent o forest h).few

pub returns-clause-stand : goal.returns-clause-stand
returns-clause-stand c = λ x lent o forest h. (standing x lent o forest h).stand
