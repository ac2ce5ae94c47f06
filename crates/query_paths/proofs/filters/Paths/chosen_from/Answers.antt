use Rattle.std.proofs.Common.{sym, ◌∙◌}
use Rattle.query_paths.proofs.Directions.{chosen_gives, kept_stand, no_predicates, nothing_gives}
use Rattle.query_paths.proofs.filters.Paths.chosen_from.Goals as goal

pub filtered_by_all-requires-clause-stand : goal.filtered_by_all-requires-clause-stand
filtered_by_all-requires-clause-stand g c = kept_stand c.args.axis c.args.found.now c.in_ok-items.items c.args.run.now c.requires.stand c.in_ok-items.ensures

pub returns : goal.returns
returns g c =
    chosen_gives c.args.axis _ c.args.found.now c.args.env.now c.args.run.now c.filtered_by_all.new.run c.in_ok-items.items c.in_ok-left.left c.turned.result c.into_sequence.result
    c.in_ok-items.ensures c.in_ok-left.ensures c.turned.ensures c.into_sequence.ensures

pub returns-then-is_empty : goal.returns-then-is_empty
returns-then-is_empty g c =
    rw c.new.ensures (nothing_gives c.args.axis _ c.args.found.now c.args.env.now c.args.run.now (sym c.is_empty.ensures ∙ c.if-is_empty.true))

pub returns-then-is_empty-2 : goal.returns-then-is_empty-2
returns-then-is_empty-2 g c =
    no_predicates c.args.axis c.args.predicates.now c.args.found.now c.args.env.now c.args.run.now c.of_nodes.result (sym c.is_empty-2.ensures ∙ c.if-is_empty-2.true) c.requires.stand c.of_nodes.ensures.items
