use Rattle.std.proofs.Common.{◌∙◌, ap, sym, subst, arith}
use Rattle.data_model.specs.Trees.{find}
use Rattle.data_model.specs.Views.{Views}
use Rattle.shelves.proofs.Shelves.{parted-lent, parted-own}
use Rattle.shelves.proofs.cursor.ShelfCursor.node.Goals as goal

pub returns-then-number-self-clause-node : goal.returns-then-number-self-clause-node
returns-then-number-self-clause-node c =
    let a = c.self.inside in
    let place = parted-lent a.first c.args.id a.lent a.own c.self.invariant (omega (arith, c.if-number-self.true, c.number.ensures)) in
    subst (Views c.node.result) (sym place ∙ ap (find c.args.id) c.self.view_is) c.node.ensures.node

pub returns-clause-node : goal.returns-clause-node
returns-clause-node c =
    let a = c.self.inside in
    let place = parted-own a.first c.args.id a.lent a.own c.self.invariant (omega (arith, c.if-number-self.false, c.number.ensures)) in
    subst (Views c.node-2.result) (sym place ∙ ap (find c.args.id) c.self.view_is) c.node-2.ensures.node
