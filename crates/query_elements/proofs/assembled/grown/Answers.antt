use Rattle.std.proofs.Common.{ap, subst, ◌∙◌}
use Rattle.shelves.specs.Shelf.{IsShelf}
use Rattle.query_meaning.specs.Running.{trees_of}
use Rattle.query_elements.specs.Whole.{go_whole}
use Rattle.query_elements.proofs.Growing.{grown_ensures, may_grow}
use Rattle.query_elements.proofs.assembled.grown.Goals as goal

pub grow-requires : goal.grow-requires
grow-requires c =
    let go = (rw c.in-Ok-Some.field-0-is at c.in-Ok-Some.ensures.whole) ∙ ap (go_whole (trees_of c.args.run.now)) c.as_slice.ensures.items in
    let are = (rw c.in-Ok-Some.field-0-is at c.in-Ok-Some.ensures.nodes) ∙ c.as_slice.ensures.items in
    record { stand = may_grow c.deref.result.now c.in-Ok-Some.nodes.items c.args.items.now (trees_of c.args.run.now) go c.deref.ensures.value are }

pub returns-in-Ok-clause-made : goal.returns-in-Ok-clause-made
returns-in-Ok-clause-made c =
    let go = (rw c.in-Ok-Some.field-0-is at c.in-Ok-Some.ensures.whole) ∙ ap (go_whole (trees_of c.args.run.now)) c.as_slice.ensures.items in
    let are = (rw c.in-Ok-Some.field-0-is at c.in-Ok-Some.ensures.nodes) ∙ c.as_slice.ensures.items in
    let shelf : IsShelf c.args.run.now.shelf = subst IsShelf c.shelf.ensures c.facts.ensures in
    rw c.in-Ok.is at (grown_ensures c.grow.result c.args.parent c.kind.result c.args.name.now c.deref.result.now c.in-Ok-Some.nodes.items c.args.items.now c.args.run.now c.grow.new.self shelf.distinct go c.deref.ensures.value are c.kind.ensures
    c.grow.ensures.root c.grow.ensures.made c.grow.ensures.work c.grow.ensures.end c.grow.ensures.high)
