use Rattle.pending.proofs.Orders.{same-code}
use Rattle.pending.proofs.laws.order.Goals as goal

pub returns : goal.returns
returns c = same-code
