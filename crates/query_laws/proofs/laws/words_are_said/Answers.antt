use Rattle.query_laws.proofs.Saying.{words}
use Rattle.query_laws.proofs.laws.words_are_said.Goals as goal

pub returns : goal.returns
returns c = words
