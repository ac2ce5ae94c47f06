use Rattle.std.proofs.Common.{◌≡◌, ◌++◌, drop}
use Rattle.query_elements.specs.Whole.{nodes_in}
use Rattle.query_elements.proofs.whole.nodes_in.Given as goal

abbrev pub invariant-loop-item : goal.invariant-loop-item
invariant-loop-item l = l.ids.items ++ nodes_in (drop l.item-index l.items) ≡ nodes_in l.items
