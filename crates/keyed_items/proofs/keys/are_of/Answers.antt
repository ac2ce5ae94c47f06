use Rattle.std.proofs.Common.{rules}
use Rattle.item_expressions.specs.Subjects.{IsVariable, OfSubject}
use Rattle.keyed_items.proofs.Making.{holds_too}
use Rattle.keyed_items.proofs.keys.are_of.Goals as goal

pub loop-function-preserved : goal.loop-function-preserved
loop-function-preserved c =
    let means : IsVariable c.args.variable.now c.function-item.result.subject = search rules in
    holds_too (λ (f : OfSubject). IsVariable c.args.variable.now f.subject) c.args.functions.now c.loop-function.function-index c.function-item.result c.loop-function.invariant c.loop-function-test.true c.function-item.is means
