use Rattle.std.proofs.Common.{sym, arith, subst, string_bytes}
use Rattle.data_model.specs.Trees.{Content}
use Rattle.data_model.specs.Changes.{CanMoveBelow}
use Rattle.shelves.specs.Shelf.{ShelfTerm}
use Rattle.data_model.specs.declared.node.Part.TheVariants.{Attributes, Children}
use Rattle.trees.proofs.CallerLemmas.{can-move-made}
use Rattle.tree_rows.proofs.own.put_own.Goals as goal

pub put_attributes-requires : goal.put_attributes-requires
put_attributes-requires c =
    let node : Content = record { identity = c.in-Ok.id; kind = c.args.kind; name = string_bytes c.args.name; text = string_bytes c.args.text } in
    let made = c.in-Ok.ensures.made in
    let P : ShelfTerm → Type 0 = λ s. CanMoveBelow Attributes c.args.parent 0 c.in-Ok.id s.own.trees in
    (subst P (sym made.1) (can-move-made Attributes c.args.parent 0 c.args.shelf.now.own node c.facts.ensures.own made.0 c.requires.there (omega arith) c.requires.other), tt)

pub put_children-requires : goal.put_children-requires
put_children-requires c =
    let node : Content = record { identity = c.in-Ok.id; kind = c.args.kind; name = string_bytes c.args.name; text = string_bytes c.args.text } in
    let made = c.in-Ok.ensures.made in
    let P : ShelfTerm → Type 0 = λ s. CanMoveBelow Children c.args.parent 0 c.in-Ok.id s.own.trees in
    (subst P (sym made.1) (can-move-made Children c.args.parent 0 c.args.shelf.now.own node c.facts.ensures.own made.0 c.requires.there (omega arith) c.requires.other), tt)
