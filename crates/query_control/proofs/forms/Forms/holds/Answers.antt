use Rattle.query_control.proofs.Values.{truth_of_name}
use Rattle.query_control.proofs.forms.Forms.holds.Goals as goal

pub returns-in-Variable : goal.returns-in-Variable
returns-in-Variable g c = truth_of_name c.args.x.now _ c.args.env.now c.args.run.now c.truth_of_variable.new.run c.truth_of_variable.result c.in-Variable.is c.truth_of_variable.ensures
