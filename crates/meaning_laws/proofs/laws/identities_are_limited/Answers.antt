use Rattle.meaning_laws.proofs.Whole.{limited}
use Rattle.meaning_laws.proofs.laws.identities_are_limited.Goals as goal

pub returns : goal.returns
returns c = limited
