use Rattle.std.proofs.Common.{subst}
use Rattle.shelves.specs.Shelf.{IsShelf}
use Rattle.query_meaning.specs.Meaning.{mean}
use Rattle.query_copies.proofs.Adding.{roots_below}
use Rattle.query_copies.proofs.Forms.{on_given}
use Rattle.query_copies.proofs.copies.Copies.value_of.Goals as goal

pub returns-clause-adds : goal.returns-clause-adds
returns-clause-adds g c =
    let x = c.args.x.now in
    let env = c.args.env.now in
    let run = c.args.run.now in
    let after = c.value_of.new.arg2 in
    let shelf = subst IsShelf c.shelf.ensures c.facts.ensures in
    on_given (mean x env) run after c.value_of.result
    (λ items e. (let trees = c.nothing_is_lost.ensures.trees x env run after items (roots_below run.shelf.own.next run.shelf.own.trees shelf.own.below) e in
    record { lent = c.nothing_is_lost.ensures.forest x env run after items e; more = trees.0; own = trees.1 }))
    (c.requires.evaluates.means _ _ _ _ _ c.requires.ready c.value_of.ensures)
