use Prim.Native.Nat.{suc}
use Rattle.std.proofs.Common.{◌≡◌, ◌∙◌, ◌+◌, ◌-◌, sym, ap, take, drop, length, length-drop, arith}
use Rattle.std.proofs.lemmas.List.{take_all}
use Rattle.data_model.specs.Walks.{held}
use Rattle.shelves.specs.Shelf.{shelf_trees}
use Rattle.query_steps.proofs.Ancestors.{up}
use Rattle.query_steps.proofs.Besides.{parted, on-following, no-following, alone-following}
use Rattle.query_steps.proofs.siblings.following.Goals as goal

pub returns-in_default : goal.returns-in_default
returns-in_default c = sym (alone-following (shelf_trees c.args.shelf.now) c.args.node (sym c.parent.ensures ∙ c.in_default.is))

pub children-children-requires : goal.children-children-requires
children-children-requires c = (up (shelf_trees c.args.shelf.now) c.facts.ensures.distinct c.args.node c.in-Some.parent (sym c.parent.ensures ∙ c.in-Some.is)).1

pub returns-in-Some-place_from_end : goal.returns-in-Some-place_from_end
returns-in-Some-place_from_end c =
    let ts = shelf_trees c.args.shelf.now in
    let nodes = c.children-children.result.now in
    let at = c.in-Some-place_from_end.at in
    let is = sym c.parent.ensures ∙ c.in-Some.is in
    let whole = parted nodes at c.args.node c.in-Some-place_from_end.ensures.within c.in-Some-place_from_end.ensures.some ∙ c.children-children.ensures in
    let more : at + 1 ≡ suc at = omega arith in
    take_all (length nodes - (at + 1)) (drop (at + 1) nodes) (omega (arith, length-drop (at + 1) nodes)) ∙ ap (λ n. drop n nodes) more ∙ sym (on-following ts c.facts.ensures.distinct c.args.node c.in-Some.parent is (take at nodes) (drop (suc at) nodes) whole)

pub returns-in-None : goal.returns-in-None
returns-in-None c =
    sym (no-following (shelf_trees c.args.shelf.now) c.facts.ensures.distinct c.args.node c.in-Some.parent (sym c.parent.ensures ∙ c.in-Some.is) (ap (held c.args.node) (sym c.children-children.ensures) ∙ c.in-None.ensures.none))
