use Rattle.level_laws.specs.Levels.{no_copying}
use Rattle.level_laws.proofs.Meanings.{same_value}
use Rattle.level_laws.proofs.Spelt.{in_text}
use Rattle.level_laws.proofs.laws.level_one_keeps_its_value.Goals as goal

pub returns-clause-whatever : goal.returns-clause-whatever
returns-clause-whatever c = λ k text x lent h. same_value k x lent (in_text text x h)

pub returns-clause-as_before : goal.returns-clause-as_before
returns-clause-as_before c = λ text x lent h. same_value no_copying x lent (in_text text x h)
