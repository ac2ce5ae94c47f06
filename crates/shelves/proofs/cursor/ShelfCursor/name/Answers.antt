use Rattle.std.proofs.Common.{◌∙◌, ap, sym, subst, arith}
use Rattle.data_model.specs.Trees.{find}
use Rattle.node_table.specs.Cursors.{Names}
use Rattle.shelves.proofs.Shelves.{parted-lent, parted-own}
use Rattle.shelves.proofs.cursor.ShelfCursor.name.Goals as goal

pub returns-then-number-self-clause-named : goal.returns-then-number-self-clause-named
returns-then-number-self-clause-named c =
    let a = c.self.inside in
    let place = parted-lent a.first c.args.id a.lent a.own c.self.invariant (omega (arith, c.if-number-self.true, c.number.ensures)) in
    subst (Names c.name.result) (sym place ∙ ap (find c.args.id) c.self.view_is) c.name.ensures.named

pub returns-clause-named : goal.returns-clause-named
returns-clause-named c =
    let a = c.self.inside in
    let place = parted-own a.first c.args.id a.lent a.own c.self.invariant (omega (arith, c.if-number-self.false, c.number.ensures)) in
    subst (Names c.name-2.result) (sym place ∙ ap (find c.args.id) c.self.view_is) c.name-2.ensures.named
