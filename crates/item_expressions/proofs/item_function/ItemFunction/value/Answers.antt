use Rattle.item_expressions.proofs.Applying.{as_meant}
use Rattle.item_expressions.proofs.item_function.ItemFunction.value.Goals as goal

pub returns-clause-value : goal.returns-clause-value
returns-clause-value c =
    let inside = c.self.inside in
    rw (← c.self.view_is) (λ env stands. as_meant inside.subject inside.made c.args.item.now.item.now env c.args.run.now c.applied.new.run c.applied.result stands c.self.invariant c.applied.ensures.value)
