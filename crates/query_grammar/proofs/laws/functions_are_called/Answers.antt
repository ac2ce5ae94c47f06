use Rattle.query_grammar.proofs.Naming.{called_exactly}
use Rattle.query_grammar.proofs.laws.functions_are_called.Goals as goal

pub returns : goal.returns
returns c = called_exactly
