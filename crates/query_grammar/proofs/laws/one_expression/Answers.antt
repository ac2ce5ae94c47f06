use Rattle.query_grammar.proofs.Forms.{one_query}
use Rattle.query_grammar.proofs.laws.one_expression.Goals as goal

pub returns : goal.returns
returns c = one_query
