use Rattle.evaluation.proofs.Looking.{part_is_variable}
use Rattle.evaluation.proofs.value.value_of_part.Goals as goal

pub returns-in-Variable : goal.returns-in-Variable
returns-in-Variable g c = part_is_variable c.args.x.now _ c.args.env.now c.args.run.now c.value_of_variable.new.run c.value_of_variable.result c.in-Variable.is c.value_of_variable.ensures
