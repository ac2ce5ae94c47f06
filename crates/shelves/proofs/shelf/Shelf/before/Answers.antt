use Rattle.std.proofs.Common.{◌∙◌, ap, sym}
use Rattle.data_model.specs.Order.{precedes}
use Rattle.shelves.specs.Shelf.{ShelfTerm, shelf_trees}
use Rattle.data_model.proofs.Climbs.{find-present}
use Rattle.shelves.proofs.Shelves.{own-counts, lent-counts, precedes-lent, precedes-first, precedes-last, precedes-own}
use Rattle.shelves.proofs.shelf.Shelf.before.Goals as goal

pub before-requires-in-false-false-clause-has_a : goal.before-requires-in-false-false-clause-has_a
before-requires-in-false-false-clause-has_a c = find-present _ c.args.a c.self.inside.lent.now.trees (lent-counts c.self.inside.lent.now c.self.inside.own c.args.self.now c.self.view_is c.facts.ensures c.self.invariant c.args.a c.in-false-false.ensures c.requires.has_a)

pub before-requires-in-false-false-clause-has_b : goal.before-requires-in-false-false-clause-has_b
before-requires-in-false-false-clause-has_b c = find-present _ c.args.b c.self.inside.lent.now.trees (lent-counts c.self.inside.lent.now c.self.inside.own c.args.self.now c.self.view_is c.facts.ensures c.self.invariant c.args.b c.in-false-false.ensures' c.requires.has_b)

pub returns-in-false-false : goal.returns-in-false-false
returns-in-false-false c =
    let a = lent-counts c.self.inside.lent.now c.self.inside.own c.args.self.now c.self.view_is c.facts.ensures c.self.invariant c.args.a c.in-false-false.ensures c.requires.has_a in
    c.before-in-false-false.ensures ∙ sym (precedes-lent c.args.a c.args.b c.self.inside.lent.now.trees c.self.inside.own.trees a) ∙ ap (λ (s : ShelfTerm). precedes c.args.a c.args.b (shelf_trees s)) c.self.view_is

pub returns-in-false-true : goal.returns-in-false-true
returns-in-false-true c =
    let a = lent-counts c.self.inside.lent.now c.self.inside.own c.args.self.now c.self.view_is c.facts.ensures c.self.invariant c.args.a c.in-false-true.ensures c.requires.has_a in
    let b = own-counts c.self.inside.lent.now c.self.inside.own c.args.self.now c.self.view_is c.facts.ensures c.self.invariant c.args.b c.in-false-true.ensures' in
    sym (precedes-first c.args.a c.args.b c.self.inside.lent.now.trees c.self.inside.own.trees a b) ∙ ap (λ (s : ShelfTerm). precedes c.args.a c.args.b (shelf_trees s)) c.self.view_is

pub returns-in-true-false : goal.returns-in-true-false
returns-in-true-false c =
    let a = own-counts c.self.inside.lent.now c.self.inside.own c.args.self.now c.self.view_is c.facts.ensures c.self.invariant c.args.a c.in-true-false.ensures in
    let b = lent-counts c.self.inside.lent.now c.self.inside.own c.args.self.now c.self.view_is c.facts.ensures c.self.invariant c.args.b c.in-true-false.ensures' c.requires.has_b in
    sym (precedes-last c.args.a c.args.b c.self.inside.lent.now.trees c.self.inside.own.trees a b) ∙ ap (λ (s : ShelfTerm). precedes c.args.a c.args.b (shelf_trees s)) c.self.view_is

pub returns-in-true-true : goal.returns-in-true-true
returns-in-true-true c =
    let a = own-counts c.self.inside.lent.now c.self.inside.own c.args.self.now c.self.view_is c.facts.ensures c.self.invariant c.args.a c.in-true-true.ensures in
    let b = own-counts c.self.inside.lent.now c.self.inside.own c.args.self.now c.self.view_is c.facts.ensures c.self.invariant c.args.b c.in-true-true.ensures' in
    c.before-in-true-true.ensures ∙ sym (precedes-own c.args.a c.args.b c.self.inside.lent.now.trees c.self.inside.own.trees a b) ∙ ap (λ (s : ShelfTerm). precedes c.args.a c.args.b (shelf_trees s)) c.self.view_is
