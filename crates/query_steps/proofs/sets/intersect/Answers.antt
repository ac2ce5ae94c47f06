use Rattle.std.proofs.Common.{◌+◌, arith, ◌∙◌, ap, sym, ◌&&◌}
use Rattle.data_model.specs.Axes.{is_in}
use Rattle.fault_codes.specs.declared.code.Code.TheVariants.{XPTY0004}
use Rattle.query_meaning.specs.Operators.{all_nodes}
use Rattle.query_steps.proofs.Members.{set-gives, chosen-both}
use Rattle.query_steps.proofs.sets.intersect.Goals as goal

pub returns : goal.returns
returns c =
    set-gives ◌&&◌ c.args.left.now c.args.right.now c.in_ok-nodes.nodes.items c.in_ok-others.others.items _ (c.len.result + c.len-2.result) c.args.run.now _ c.in_order.new.run _ c.in_order.result
    (ap (all_nodes XPTY0004) (sym c.as_slice.ensures.items) ∙ c.in_ok-nodes.ensures.nodes)
    (ap (all_nodes XPTY0004) (sym c.as_slice-2.ensures.items) ∙ c.in_ok-others.ensures.nodes)
    (omega (arith, c.len.ensures, c.len-2.ensures, c.in_ok-nodes.nodes.ok.0, c.in_ok-others.others.ok.0)) c.in_ok-order.ensures.ordered
    (λ i. chosen-both _ _ c.in_ok-set.set c.deref-2.result.now c.in_ok-both.both.items i c.deref-2.ensures.value c.in_ok-both.ensures (c.in_ok-set.ensures i ∙ ap (is_in i) c.deref.ensures.value))
    c.in_order.ensures
