use Rattle.std.proofs.Common.{◌≡◌, ◌∙◌, ap, sym, subst, is_some, true, Option, IsSome}
use Rattle.data_model.specs.Trees.{Place, find, size}
use Rattle.data_model.specs.Changes.{pick}
use Rattle.shelves.specs.Shelf.{ShelfTerm, shelf_trees}
use Rattle.trees.proofs.Lent.{find-lent, has-counts}
use Rattle.trees.proofs.Nests.{same-picked}
use Rattle.shelves.proofs.shelf.Shelf.tree_size.Goals as goal

pub returns-in-Some-clause-size : goal.returns-in-Some-clause-size
returns-in-Some-clause-size c =
    let s = c.args.self.now in
    let i = c.args.root in
    let facts = c.facts.ensures in
    let has : is_some (find i s.lent.trees) ≡ true = ap (λ (t : ShelfTerm). is_some (find i t.lent.trees)) (sym c.self.view_is) ∙ sym c.has.ensures ∙ c.if-has.true in
    let same = find-lent i s.lent.trees s.own.trees (has-counts i s.lent.trees has) in
    let P : Option Place → Type 0 = IsSome in
    c.in-Some.ensures ∙ ap (λ (t : ShelfTerm). size (pick i t.lent.trees)) c.self.view_is
    ∙ ap size (same-picked i s.lent.trees (shelf_trees s) facts.lent.distinct facts.distinct (subst P (sym same) has) (sym same))
