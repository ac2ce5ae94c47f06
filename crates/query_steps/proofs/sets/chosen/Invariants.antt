use Rattle.std.proofs.Common.{◌≡◌, ◌++◌, filter, drop}
use Rattle.query_steps.specs.Sets.{is_as_wanted}
use Rattle.query_steps.proofs.sets.chosen.Given as goal

abbrev pub invariant-loop-node : goal.invariant-loop-node
invariant-loop-node l = l.chosen.items ++ filter (is_as_wanted l.wanted l.set) (drop l.node-index l.nodes) ≡ filter (is_as_wanted l.wanted l.set) l.nodes
