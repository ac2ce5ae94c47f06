use Rattle.query_laws.proofs.Names.{names}
use Rattle.query_laws.proofs.laws.names_are_names.Goals as goal

pub returns : goal.returns
returns c = names
