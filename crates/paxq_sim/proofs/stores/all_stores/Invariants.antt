use Rattle.std.proofs.Common.{◌≡◌}
use Rattle.paxq_sim.specs.Stores.{stores_of}
use Rattle.paxq_sim.proofs.stores.all_stores.Given as goal

-- the stores of the members before
abbrev pub invariant-loop-before : goal.invariant-loop-before
invariant-loop-before l = l.stores.items ≡ stores_of l.before l.failures
