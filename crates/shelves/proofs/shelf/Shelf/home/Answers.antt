use Rattle.std.proofs.Common.{◌∙◌, ap, sym, arith}
use Rattle.data_model.specs.Trees.{find}
use Rattle.shelves.specs.Shelf.{ShelfTerm, shelf_trees}
use Rattle.shelves.proofs.Shelves.{found-lent, found-own}
use Rattle.shelves.proofs.shelf.Shelf.home.Goals as goal

pub returns-then-number-first : goal.returns-then-number-first
returns-then-number-first c =
    sym (found-lent c.self.inside.lent.now c.self.inside.own c.self.invariant c.args.id (omega (arith, c.if-number-first.true, c.number.ensures, c.number-first.ensures, c.next.ensures)))
    ∙ ap (λ (s : ShelfTerm). find c.args.id (shelf_trees s)) c.self.view_is

pub returns-else-number-first : goal.returns-else-number-first
returns-else-number-first c =
    sym (found-own c.self.inside.lent.now c.self.inside.own c.facts.ensures c.args.id (omega (arith, c.if-number-first.false, c.number.ensures, c.number-first.ensures, c.next.ensures)))
    ∙ ap (λ (s : ShelfTerm). find c.args.id (shelf_trees s)) c.self.view_is
