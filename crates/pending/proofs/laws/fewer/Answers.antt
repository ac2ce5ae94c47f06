use Rattle.pending.proofs.Orders.{still-compatible}
use Rattle.pending.proofs.laws.fewer.Goals as goal

pub returns : goal.returns
returns c = still-compatible
