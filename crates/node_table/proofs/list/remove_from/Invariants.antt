use Rattle.std.proofs.Common.{◌≡◌, take}
use Rattle.data_model.specs.Walks.{held}
use Rattle.node_table.proofs.list.remove_from.Given as goal

abbrev pub invariant-loop-at : goal.invariant-loop-at
invariant-loop-at l = (l.ids.items ≡ l.initial.ids.items) × (held l.fn.id (take l.at l.ids.items) ≡ 0)
