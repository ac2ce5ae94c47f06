use Rattle.update_meaning.proofs.Absent.{unchanged}
use Rattle.update_meaning.proofs.laws.absent.Goals as goal

pub returns : goal.returns
returns c = unchanged
