use Rattle.query_laws.proofs.Spelling.{read_as_spelt}
use Rattle.query_laws.proofs.laws.spelt_tokens_are_read.Goals as goal

pub returns : goal.returns
returns c = read_as_spelt
