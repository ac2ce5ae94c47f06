use Prim.Native.Nat.{suc}
use Rattle.std.proofs.Common.{◌∙◌, sym, ap, take, drop}
use Rattle.data_model.specs.Walks.{held}
use Rattle.shelves.specs.Shelf.{shelf_trees}
use Rattle.query_steps.proofs.Ancestors.{up}
use Rattle.query_steps.proofs.Besides.{parted, on-preceding, no-preceding, alone-preceding}
use Rattle.query_steps.proofs.siblings.preceding.Goals as goal

pub returns-in_default : goal.returns-in_default
returns-in_default c = sym (alone-preceding (shelf_trees c.args.shelf.now) c.args.node (sym c.parent.ensures ∙ c.in_default.is))

pub children-children-requires : goal.children-children-requires
children-children-requires c = (up (shelf_trees c.args.shelf.now) c.facts.ensures.distinct c.args.node c.in-Some.parent (sym c.parent.ensures ∙ c.in-Some.is)).1

pub returns-in-Some-place_from_start : goal.returns-in-Some-place_from_start
returns-in-Some-place_from_start c =
    let ts = shelf_trees c.args.shelf.now in
    let nodes = c.children-children.result.now in
    let at = c.in-Some-place_from_start.at in
    let is = sym c.parent.ensures ∙ c.in-Some.is in
    let whole = parted nodes at c.args.node c.in-Some-place_from_start.ensures.within c.in-Some-place_from_start.ensures.some ∙ c.children-children.ensures in
    sym (on-preceding ts c.facts.ensures.distinct c.args.node c.in-Some.parent is (take at nodes) (drop (suc at) nodes) whole)

pub returns-in-None : goal.returns-in-None
returns-in-None c =
    sym (no-preceding (shelf_trees c.args.shelf.now) c.facts.ensures.distinct c.args.node c.in-Some.parent (sym c.parent.ensures ∙ c.in-Some.is) (ap (held c.args.node) (sym c.children-children.ensures) ∙ c.in-None.ensures.none))
