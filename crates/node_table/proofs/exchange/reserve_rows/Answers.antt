use Rattle.std.proofs.Common.{ap, nat_eq}
use Rattle.std.specs.Map.{lookup}
use Rattle.node_table.proofs.Plans.{rows-reordered}
use Rattle.node_table.proofs.exchange.reserve_rows.Goals as goal

pub returns-clause-same : goal.returns-clause-same
returns-clause-same c = rows-reordered c.args.rows.now c.reserve.new.self (λ k. ap (lookup (nat_eq k)) c.reserve.ensures.same)
