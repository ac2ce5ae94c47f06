use Rattle.meaning_laws.proofs.Whole.{own_trees}
use Rattle.meaning_laws.proofs.laws.identities_are_new.Goals as goal

pub returns : goal.returns
returns c = own_trees
