use Rattle.std.proofs.Common.{◌∷◌, [], ap}
use Rattle.fault_codes.specs.declared.code.Code.TheVariants.{XPTY0019}
use Rattle.query_meaning.specs.Operators.{all_nodes}
use Rattle.query_steps.proofs.Members.{not-all}
use Rattle.query_paths.proofs.segments.are_nodes.Goals as goal

pub returns-in-Atomic-clause-code : goal.returns-in-Atomic-clause-code
returns-in-Atomic-clause-code c = not-all XPTY0019 c.args.items.now c.loop-item.item-index c.item-item.result c.loop-item-test.true c.item-item.is (ap (λ y. all_nodes XPTY0019 (y ∷ [])) c.in-Atomic.is)
