use Rattle.std.proofs.Common.{◌≡◌}
use Rattle.data_model.specs.Trees.{append}
use Rattle.trees.specs.Grown.{picked, with_node}
use Rattle.shelves.proofs.Shelves.{after-made, after-grown}
use Rattle.shelves.proofs.shelf.Shelf.grow.Goals as goal

pub invariant_of-self : goal.invariant_of-self
invariant_of-self c =
    let u = c.self.inside.lent.now in
    let v = c.self.inside.own in
    let w = c.grow.new.self in
    let us = picked c.args.nodes.now (append u.trees v.trees) in
    after-made c.grow.result (λ _. w ≡ with_node c.args.kind c.args.name.now us v) u v w c.self.invariant (λ _ made. after-grown u v w c.args.kind c.args.name.now us c.self.invariant made) c.grow.ensures.made c.grow.ensures.refused
