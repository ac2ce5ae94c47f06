use Rattle.std.proofs.Common.{◌≡◌, ◌++◌, drop}
use Rattle.paxq_sim.specs.Stores.{plan_of}
use Rattle.paxq_sim.proofs.stores.plan_of.Given as goal

-- what is planned and what is left are all of it
abbrev pub invariant-loop-failure : goal.invariant-loop-failure
invariant-loop-failure l = l.plan.items ++ plan_of l.member (drop l.failure-index l.failures) ≡ plan_of l.member l.failures
