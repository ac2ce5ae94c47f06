use Rattle.item_expressions.proofs.Comparing.{as_meant}
use Rattle.item_expressions.proofs.item_comparison.ItemComparison.holds.Goals as goal

pub returns-clause-holds : goal.returns-clause-holds
returns-clause-holds c =
    let inside = c.self.inside in
    rw (← c.self.view_is)
    (λ env stands. as_meant inside.operator inside.subject c.args.item.now.item.now inside.literal env c.args.run.now c.holds_of.new.run c.holds_of.result stands c.self.invariant c.holds_of.ensures.holds)
