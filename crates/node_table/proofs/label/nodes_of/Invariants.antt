use Rattle.std.proofs.Common.{◌≡◌, map, take}
use Rattle.node_table.proofs.label.nodes_of.Given as goal

abbrev pub invariant-loop-each : goal.invariant-loop-each
invariant-loop-each l = l.nodes.items ≡ map (λ x. x.node) (take l.each-index l.labelled)
