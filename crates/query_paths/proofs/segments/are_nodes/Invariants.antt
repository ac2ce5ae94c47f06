use Rattle.std.proofs.Common.{drop, IsOk}
use Rattle.fault_codes.specs.declared.code.Code.TheVariants.{XPTY0019}
use Rattle.query_meaning.specs.Operators.{all_nodes}
use Rattle.query_paths.proofs.segments.are_nodes.Given as goal

abbrev pub invariant-loop-item : goal.invariant-loop-item
invariant-loop-item l = IsOk (all_nodes XPTY0019 (drop l.item-index l.items)) → IsOk (all_nodes XPTY0019 l.items)
