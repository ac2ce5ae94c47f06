use Rattle.parser.proofs.Exact.{not_both}
use Rattle.parser.proofs.laws.no_expression_and_fault.Goals as goal

pub returns : goal.returns
returns c = not_both
