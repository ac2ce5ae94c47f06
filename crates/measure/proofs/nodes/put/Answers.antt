use Rattle.std.proofs.Common.{sym, subst, string_bytes}
use Rattle.data_model.specs.Trees.{Content}
use Rattle.data_model.specs.Changes.{CanMoveBelow}
use Rattle.data_model.specs.declared.node.Part.TheVariants.{Children}
use Rattle.trees.specs.Forest.{ForestTerm}
use Rattle.trees.proofs.CallerLemmas.{can-move-made}
use Rattle.measure.proofs.nodes.put.Goals as goal

pub put_children-requires : goal.put_children-requires
put_children-requires c =
    let made = c.in-Ok.ensures.made in
    let node : Content = record { identity = c.in-Ok.node; kind = c.args.kind; name = string_bytes c.in_ok-name.name; text = string_bytes c.in_ok-text.text } in
    let P : ForestTerm → Type 0 = λ f. CanMoveBelow Children c.args.parent c.index_among-index.result c.in-Ok.node f.trees in
    (subst P (sym made.1) (can-move-made Children c.args.parent c.index_among-index.result c.args.forest.now node c.facts.ensures made.0 c.requires.there c.index_among-index.ensures c.requires.other), tt)
