use Rattle.std.proofs.Common.{◌≡◌, ◌+◌, arith}
use Rattle.data_model.specs.Trees.{append, size}
use Rattle.data_model.specs.Changes.{pick, renumbered}
use Rattle.node_table.proofs.Copies.{renumbered-within}
use Rattle.shelves.proofs.Shelves.{after-either, after-more}
use Rattle.shelves.proofs.shelf.Shelf.copy.Goals as goal

pub invariant_of-self : goal.invariant_of-self
invariant_of-self c =
    let u = c.self.inside.lent.now in
    let v = c.self.inside.own in
    let w = c.copy_from.new.self in
    let us = pick c.args.id (append u.trees v.trees) in
    after-either c.copy_from.result (λ i. (i ≡ v.next) × (w ≡ record v { trees = append v.trees (renumbered v.next us); next = v.next + size us })) u v w c.self.invariant
    (λ i made. after-more u v w (renumbered v.next us) (v.next + size us) c.self.invariant (omega arith) (λ j there. (renumbered-within v.next j us there).0) made.1) c.copy_from.ensures.made c.copy_from.ensures.refused
