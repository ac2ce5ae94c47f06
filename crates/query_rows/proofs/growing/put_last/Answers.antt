use Rattle.std.proofs.Common.{◌≤◌, ap, arith, length, string_bytes, subst, sym}
use Rattle.data_model.specs.Trees.{Content, attributes_of, children_of}
use Rattle.data_model.specs.Changes.{CanMoveBelow}
use Rattle.data_model.specs.declared.node.Part.TheVariants.{Attributes, Children}
use Rattle.trees.specs.Forest.{ForestTerm}
use Rattle.trees.proofs.CallerLemmas.{can-move-made}
use Rattle.query_rows.proofs.growing.put_last.Goals as goal

pub put_attributes-requires : goal.put_attributes-requires
put_attributes-requires c =
    let node : Content = record { identity = c.in-Ok.id; kind = c.args.kind; name = string_bytes c.args.name; text = string_bytes c.args.text } in
    let made = c.in-Ok.ensures.made in
    let few : length c.attributes-attributes.result.now ≤ length (attributes_of c.args.parent c.args.forest.now.trees) = (let e = ap length c.attributes-attributes.ensures in omega (arith, e)) in
    let P : ForestTerm → Type 0 = λ f. CanMoveBelow Attributes c.args.parent (length c.attributes-attributes.result.now) c.in-Ok.id f.trees in
    (subst P (sym made.1) (can-move-made Attributes c.args.parent (length c.attributes-attributes.result.now) c.args.forest.now node c.facts.ensures made.0 c.requires.there few c.requires.other), tt)

pub put_children-requires : goal.put_children-requires
put_children-requires c =
    let node : Content = record { identity = c.in-Ok.id; kind = c.args.kind; name = string_bytes c.args.name; text = string_bytes c.args.text } in
    let made = c.in-Ok.ensures.made in
    let few : length c.children-children.result.now ≤ length (children_of c.args.parent c.args.forest.now.trees) = (let e = ap length c.children-children.ensures in omega (arith, e)) in
    let P : ForestTerm → Type 0 = λ f. CanMoveBelow Children c.args.parent (length c.children-children.result.now) c.in-Ok.id f.trees in
    (subst P (sym made.1) (can-move-made Children c.args.parent (length c.children-children.result.now) c.args.forest.now node c.facts.ensures made.0 c.requires.there few c.requires.other), tt)
