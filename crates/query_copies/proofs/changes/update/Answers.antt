use Rattle.std.proofs.Common.{◌≡◌, ◌≤◌, ◌<◌, ◌∙◌, ℕ, Ok, ap, map, subst, sym}
use Rattle.data_model.specs.Trees.{append, count}
use Rattle.pending.specs.Primitives.{primitive_term}
use Rattle.shelves.specs.Shelf.{ComesAfter, IsShelf}
use Rattle.trees.specs.Forest.{ForestTerm}
use Rattle.update_meaning.specs.Brought.{new_trees}
use Rattle.update_meaning.specs.Changed.{applied_to_copies}
use Rattle.query_meaning.specs.Running.{Run}
use Rattle.query_copies.proofs.Changed.{below_next, comes_after, once_each}
use Rattle.query_copies.proofs.changes.update.Goals as goal

pub apply_copies-requires-clause-distinct : goal.apply_copies-requires-clause-distinct
apply_copies-requires-clause-distinct c = λ i.
    let ps = map primitive_term c.args.list.now in
    subst (λ (f : ForestTerm). count i (append f.trees (new_trees ps)) ≤ 1) (sym c.take_own-own.ensures.taken) (once_each ps c.args.run.now c.requires.bring i)

pub apply_copies-requires-clause-below : goal.apply_copies-requires-clause-below
apply_copies-requires-clause-below c = λ i there.
    let ps = map primitive_term c.args.list.now in
    subst (λ (n : ℕ). i < n) (ap (λ (f : ForestTerm). f.next) (sym c.take_own-own.ensures.taken) ∙ sym c.next-next.ensures) (below_next ps c.args.run.now c.requires.bring i there)

pub put_own-requires : goal.put_own-requires
put_own-requires c =
    let ps = map primitive_term c.args.list.now in
    let run = c.args.run.now in
    let own = c.take_own-own.ensures.taken in
    let next = ap (λ (f : ForestTerm). f.next) (sym own) ∙ sym c.next-next.ensures in
    let applied : applied_to_copies c.args.roots.now ps run.shelf.own.next run.shelf.own ≡ Ok c.apply_copies.new.forest = (λ j. applied_to_copies (sym c.as_slice.ensures j) ps (next j) (sym own j)) ∙ c.in-Ok.ensures.applied in
    let left : run.shelf.lent ≡ c.take_own-own.new.self.shelf.lent = ap (λ (r : Run). r.shelf.lent) (sym c.take_own-own.ensures.left) in
    subst (λ (f : ForestTerm). ComesAfter f c.apply_copies.new.forest) left (comes_after c.args.roots.now ps run c.apply_copies.new.forest (subst IsShelf c.shelf.ensures c.facts.ensures) c.requires.bring applied)
