use Rattle.parser.proofs.Exact.{complete, sound}
use Rattle.parser.proofs.laws.parsing_is_exact.Goals as goal

pub returns : goal.returns
returns c = λ level text x. (complete level text x, sound level text x)
