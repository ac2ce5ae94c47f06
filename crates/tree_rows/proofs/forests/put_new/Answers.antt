use Rattle.std.proofs.Common.{sym, arith, subst, string_bytes}
use Rattle.data_model.specs.Trees.{Content}
use Rattle.data_model.specs.Changes.{CanMoveBelow}
use Rattle.trees.specs.Forest.{ForestTerm}
use Rattle.data_model.specs.declared.node.Part.TheVariants.{Attributes, Children}
use Rattle.trees.proofs.CallerLemmas.{can-move-made}
use Rattle.tree_rows.proofs.forests.put_new.Goals as goal

pub put_attributes-requires : goal.put_attributes-requires
put_attributes-requires c =
    let node : Content = record { identity = c.in-Ok.id; kind = c.args.kind; name = string_bytes c.args.name; text = string_bytes c.args.text } in
    let made = c.in-Ok.ensures.made in
    let P : ForestTerm → Type 0 = λ f. CanMoveBelow Attributes c.args.parent 0 c.in-Ok.id f.trees in
    (subst P (sym made.1) (can-move-made Attributes c.args.parent 0 c.args.forest.now node c.facts.ensures made.0 c.requires.there (omega arith) c.requires.other), tt)

pub put_children-requires : goal.put_children-requires
put_children-requires c =
    let node : Content = record { identity = c.in-Ok.id; kind = c.args.kind; name = string_bytes c.args.name; text = string_bytes c.args.text } in
    let made = c.in-Ok.ensures.made in
    let P : ForestTerm → Type 0 = λ f. CanMoveBelow Children c.args.parent 0 c.in-Ok.id f.trees in
    (subst P (sym made.1) (can-move-made Children c.args.parent 0 c.args.forest.now node c.facts.ensures made.0 c.requires.there (omega arith) c.requires.other), tt)
