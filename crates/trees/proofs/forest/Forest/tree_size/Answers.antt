use Rattle.std.proofs.Common.{◌≡◌, ◌∙◌, ap, sym}
use Rattle.forest_index.specs.Sized.{kept_sizes, size_in}
use Rattle.trees.proofs.Forests.{now-sizes, forest-facts}
use Rattle.forest_index.proofs.Sized.{in-some, sizes-read}
use Rattle.trees.proofs.forest.Forest.tree_size.Goals as goal

pub returns-in-Some : goal.returns-in-Some
returns-in-Some c =
    let v = c.args.self.now in
    let sizes = now-sizes c.self.inside v c.self.view_is c.self.invariant in
    let kept : c.copied.result ≡ size_in (kept_sizes c.self.inside.index) c.args.root =
    rw c.number.ensures at (c.copied.ensures ∙ c.get.ensures) ∙ sym (ap (λ o. size_in o c.args.root) (ap kept_sizes c.in-Some.is) ∙ in-some c.in-Some.index.sizes c.args.root) in
    sizes-read (size_in (kept_sizes c.self.inside.index)) v.trees (forest-facts c.self.inside v c.self.view_is c.self.invariant).distinct sizes c.args.root c.copied.result kept
