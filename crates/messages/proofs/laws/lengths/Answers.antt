use Rattle.messages.proofs.Lengths.{no-longer, bounded}
use Rattle.messages.proofs.laws.lengths.Goals as goal

pub returns-clause-of_kind : goal.returns-clause-of_kind
returns-clause-of_kind c = no-longer

pub returns-clause-of_all : goal.returns-clause-of_all
returns-clause-of_all c = bounded
