use Rattle.std.proofs.Common.{◌∙◌, ap}
use Rattle.data_model.specs.Order.{precedes}
use Rattle.trees.specs.Forest.{ForestTerm}
use Rattle.trees.proofs.Rising.{in-order, own-trees}
use Rattle.trees.proofs.forest.Forest.comes_first.Goals as goal

pub level_order-requires : goal.level_order-requires
level_order-requires c = record { rows = in-order c.args.rows.now c.args.self.now c.requires.rows c.self.inside.next (ap (λ (v : ForestTerm). v.next) c.self.view_is) }

pub returns-in-Some-clause-before : goal.returns-in-Some-clause-before
returns-in-Some-clause-before c =
    c.in-Some.ensures.before ∙ ap (precedes c.args.a c.args.b) (own-trees c.args.rows.now c.args.self.now c.requires.rows c.self.inside.next (ap (λ (v : ForestTerm). v.next) c.self.view_is))
