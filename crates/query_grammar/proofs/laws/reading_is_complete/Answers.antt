use Rattle.query_grammar.proofs.Forms.{complete_query}
use Rattle.query_grammar.proofs.laws.reading_is_complete.Goals as goal

pub returns : goal.returns
returns c = complete_query
