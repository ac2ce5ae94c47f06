use Rattle.std.proofs.Common.{ap, sym, ◌∙◌}
use Rattle.data_model.specs.Tree.{all_of}
use Rattle.query_elements.proofs.Distinct.{is_distinct_after, begins, goes_on}
use Rattle.query_elements.proofs.judged.has_distinct_attributes.Goals as goal

pub loop-tree-init : goal.loop-tree-init
loop-tree-init c = ap (λ names. is_distinct_after names (all_of c.args.trees.now)) c.new-names.ensures ∙ begins (all_of c.args.trees.now)

pub loop-tree-preserved : goal.loop-tree-preserved
loop-tree-preserved c =
    goes_on c.loop-tree.names c.add_attribute.new.names c.in-Some.tree.now c.in-Some.others.now c.in_ok-is_new.is_new _ c.in_ok-is_new.ensures.new c.if-not-is_new.false c.in_ok-is_new.ensures.names
    (ap (λ xs. is_distinct_after c.loop-tree.names (all_of xs)) (sym c.in-Some.ensures.cases.0) ∙ c.loop-tree.invariant)
