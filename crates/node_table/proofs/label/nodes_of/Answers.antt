use Rattle.std.proofs.Common.{◌≤◌, length, map, eqb, ap, ◌∙◌, arith}
use Rattle.std.specs.List.{dedup}
use Rattle.std.proofs.lemmas.List.{take_all}
use Rattle.std.proofs.lemmas.List.Filters.{dedup_is}
use Rattle.node_table.proofs.label.nodes_of.Goals as goal

pub returns : goal.returns
returns c =
    let end : length c.args.labelled.now ≤ c.loop-each.each-index = omega arith in
    dedup_is eqb _ _ c.dedup.ensures.filtered ∙ ap (dedup eqb) (c.loop-each.invariant ∙ ap (map (λ x. x.node)) (take_all c.loop-each.each-index c.args.labelled.now end))
