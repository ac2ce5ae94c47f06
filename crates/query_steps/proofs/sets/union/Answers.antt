use Rattle.std.proofs.Common.{◌+◌, arith, ◌∙◌, ap, sym, ◌||◌, eqb}
use Rattle.data_model.specs.Axes.{is_in}
use Rattle.fault_codes.specs.declared.code.Code.TheVariants.{XPTY0004}
use Rattle.query_meaning.specs.Operators.{all_nodes}
use Rattle.std.proofs.lemmas.List.Folds.{list_any-append}
use Rattle.query_steps.proofs.Members.{set-gives}
use Rattle.query_steps.proofs.sets.union.Goals as goal

pub returns : goal.returns
returns c =
    set-gives ◌||◌ c.args.left.now c.args.right.now c.in_ok-nodes.nodes.items c.in_ok-others.others.items _ (c.len.result + c.len-2.result) c.args.run.now _ c.in_order.new.run _ c.in_order.result
    (ap (all_nodes XPTY0004) (sym c.as_slice.ensures.items) ∙ c.in_ok-nodes.ensures.nodes)
    (ap (all_nodes XPTY0004) (sym c.as_slice-2.ensures.items) ∙ c.in_ok-others.ensures.nodes)
    (omega (arith, c.len.ensures, c.len-2.ensures, c.in_ok-nodes.nodes.ok.0, c.in_ok-others.others.ok.0)) c.in_ok-order.ensures.ordered
    (λ i. ap (is_in i) c.in_ok-all.ensures ∙ list_any-append (λ j. eqb i j) c.in_ok-nodes.nodes.items c.in_ok-others.others.items)
    c.in_order.ensures
