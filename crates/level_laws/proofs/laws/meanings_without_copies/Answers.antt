use Rattle.level_laws.proofs.Meanings.{as_it_is, same_meaning}
use Rattle.level_laws.proofs.laws.meanings_without_copies.Goals as goal

pub returns-clause-whatever : goal.returns-clause-whatever
returns-clause-whatever c = same_meaning

pub returns-clause-as_it_is : goal.returns-clause-as_it_is
returns-clause-as_it_is c = as_it_is
