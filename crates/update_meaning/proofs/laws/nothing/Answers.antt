use Rattle.update_meaning.proofs.Nothing.{unchanged}
use Rattle.update_meaning.proofs.laws.nothing.Goals as goal

pub returns : goal.returns
returns c = unchanged
