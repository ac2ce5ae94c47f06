use Rattle.update_meaning.proofs.Stores.{same_stores}
use Rattle.update_meaning.proofs.laws.stores.Goals as goal

pub returns : goal.returns
returns c = same_stores
