use Rattle.parser.proofs.Exact.{one}
use Rattle.parser.proofs.laws.one_expression.Goals as goal

pub returns : goal.returns
returns c = one
