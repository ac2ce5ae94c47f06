use Rattle.std.proofs.Common.{◌≡◌, sym, subst}
use Rattle.data_model.specs.Changes.{all_moved_below, CanAllMoveBelow}
use Rattle.data_model.specs.declared.node.Part.TheVariants.{Children}
use Rattle.shelves.specs.Shelf.{ShelfTerm}
use Rattle.shelves.proofs.Shelves.{after-either, after-weighed, count-all-moved}
use Rattle.shelves.proofs.shelf.Shelf.put_children.Goals as goal

pub invariant_of-self : goal.invariant_of-self
invariant_of-self c =
    let u = c.self.inside.lent.now in
    let v = c.self.inside.own in
    let w = c.put_children.new.self in
    let ts = all_moved_below Children c.args.parent c.args.index c.args.nodes.now v.trees in
    let P : ShelfTerm → Type 0 = λ s. CanAllMoveBelow Children c.args.parent c.args.index c.args.nodes.now s.own.trees in
    let can = subst P (sym c.self.view_is) c.requires in
    after-either c.put_children.result (λ _. w ≡ record v { trees = ts }) u v w c.self.invariant (λ _ made. after-weighed u v w ts c.self.invariant (count-all-moved Children c.args.parent c.args.index c.args.nodes.now v.trees c.facts.ensures.distinct can) made) c.put_children.ensures.put c.put_children.ensures.refused
