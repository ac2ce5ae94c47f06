use Rattle.evaluation.specs.Gives.{Any}
use Rattle.evaluation.proofs.Each.{Goes}
use Rattle.copied_content.specs.Copying.{and_item, nothing}
use Rattle.copied_content.proofs.copying.copied_items.Given as goal

abbrev pub invariant-loop-item : goal.invariant-loop-item
invariant-loop-item l = Goes Any (λ _. and_item) l.fn.items nothing l.fn.run l.item-index l.partial l.run
