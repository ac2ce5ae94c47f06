use Rattle.std.proofs.Common.{◌∙◌, ◌++◌, ◌∷◌, [], ap, ap₂, sym, length, arith}
use Rattle.std.proofs.lemmas.List.FromFn.{map-range_with_len_more, length-map-range_with_len}
use Rattle.evaluation.proofs.sequence.Sequence.integers.Goals as goal

pub loop-offset-preserved : goal.loop-offset-preserved
loop-offset-preserved c =
    c.in_ok-push.ensures.items ∙ ap₂ (λ xs x. xs ++ x ∷ []) c.loop-offset.invariant c.nth.ensures ∙ sym (map-range_with_len_more _ 0 c.loop-offset.offset c.loop-offset.offset (omega arith))

pub invariant_of-result : goal.invariant_of-result
invariant_of-result c =
    let count = ap length c.loop-offset.invariant ∙ length-map-range_with_len _ 0 c.loop-offset.offset in
    omega (arith, count, c.loop-offset.auto.offset-end, c.requires.most)
