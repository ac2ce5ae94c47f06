-- An own node has the parent that it has on the shelf, since it stands in the own forest alone.
use Rattle.std.proofs.Common.{◌≡◌, ℕ, ◌∙◌, refl, arith, subst, ⊎_elim, Option, None, IsSome}
use Rattle.data_model.specs.Trees.{Place, find, count, parent_at}
use Rattle.data_model.proofs.Climbs.{any-tells, find-absent, there-counts}
use Rattle.trees.proofs.CallerLemmas.{find-append}
use Rattle.trees.proofs.Lent.{lent-apart}
use Rattle.shelves.specs.Shelf.{ShelfTerm, IsShelf, shelf_trees}
use Rattle.tree_rows.proofs.own.take_out_own.Goals as goal

find-own : (i : ℕ) (s : ShelfTerm) → IsShelf s → IsSome (find i s.own.trees) → find i (shelf_trees s) ≡ find i s.own.trees
find-own i s facts own =
    let there = there-counts i s.own.trees own in
    let none : count i s.lent.trees ≡ 0 = ⊎_elim (λ t. (let z : count i s.own.trees ≡ 0 = lent-apart s.lent s.own facts.lent facts.after.apart i t.1 in absurd (omega arith))) (λ t. t.1) (any-tells (count i s.lent.trees)) in
    find-append None i s.lent.trees s.own.trees ∙ rw (find-absent None i s.lent.trees none) refl

pub take_out-requires-clause-below : goal.take_out-requires-clause-below
take_out-requires-clause-below c =
    let P : Option Place → Type 0 = λ o. IsSome (parent_at o) in
    subst P (find-own c.args.id c.args.shelf.now c.facts.ensures c.requires.there) c.requires.below
