use Rattle.std.proofs.Common.{map, subst}
use Rattle.pending.specs.Primitives.{primitive_term}
use Rattle.shelves.specs.Shelf.{IsShelf}
use Rattle.query_copies.proofs.Listed.{bare_known, bare_list, bare_shelf, own_brings}
use Rattle.query_copies.proofs.copies.Copies.own_list.Goals as goal

pub returns-clause-bring : goal.returns-clause-bring
returns-clause-bring g c =
    let x = c.args.changes.now in
    let env = c.args.env.now in
    let old = c.args.run.now in
    let bare = c.take_primitives-outer.new.self in
    let full = c.value_of.new.run in
    let without = c.take_primitives-outer.ensures.left in
    own_brings old bare without full c.take_primitives-own.new.self c.put_primitives.new.self (map primitive_term c.take_primitives-own.result) (map primitive_term c.take_primitives-outer.result)
    c.take_primitives-outer.ensures.taken c.take_primitives-own.ensures.taken c.take_primitives-own.ensures.left c.put_primitives.ensures
    c.in_ok-value_of.ensures.adds.lent
    (λ i. c.own_lists_bring_new_nodes.ensures x env bare full c.in_ok-value_of.field-0 (bare_shelf old bare without (subst IsShelf c.shelf.ensures c.facts.ensures)) (bare_list old bare without)
    (bare_known old bare without env c.requires.ready c.facts-2.ensures.few) c.in_ok-value_of.ensures.value.0 i)
