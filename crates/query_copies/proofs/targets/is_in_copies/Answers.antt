use Rattle.std.proofs.Common.{◌∙◌, sym}
use Rattle.query_copies.proofs.Rooted.{not_rooted, own_rooted, own_stands}
use Rattle.query_copies.proofs.targets.is_in_copies.Goals as goal

pub root_of-requires : goal.root_of-requires
root_of-requires c = own_stands c.args.shelf.now c.args.node (sym c.is_own.ensures ∙ c.if-is_own.true)

pub returns-then-is_own : goal.returns-then-is_own
returns-then-is_own c = c.has.ensures ∙ own_rooted c.args.roots.now c.args.node c.args.shelf.now c.root_of.result c.facts.ensures (sym c.is_own.ensures ∙ c.if-is_own.true) c.root_of.ensures

pub returns-else-is_own : goal.returns-else-is_own
returns-else-is_own c = c.if-is_own.false ∙ not_rooted c.args.roots.now c.args.node c.args.shelf.now.own.trees (sym c.is_own.ensures ∙ c.if-is_own.false)
