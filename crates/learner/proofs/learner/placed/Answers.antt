use Rattle.std.proofs.Common.{◌∙◌, ◌+◌, ℕ, List, Some, cond, eqb, ap, sym}
use Rattle.ballots.specs.declared.value.Value.{Value}
use Rattle.position_map.specs.Slots.{filled, value_at as value_in}
use Rattle.learner.proofs.Learning.{value_pairs}
use Rattle.learner.proofs.Resuming.{placed_all, placed_more, placed_within}
use Rattle.learner.proofs.learner.placed.Goals as goal

pub loop-value-preserved : goal.loop-value-preserved
loop-value-preserved c =
    let i : ℕ = c.loop-value.value-index in
    let v : Value = c.value-item.result in
    let was : List (ℕ × Value) = filled c.reserve.new.self in
    record {
      position = ap (λ k. k + 1) c.loop-value.invariant.position;
      placed = λ q. placed_more q i c.args.values.now v (value_in q was) (value_in q (filled c.fill.new.self)) c.loop-value-test.true c.value-item.is
          (ap (value_in q) c.reserve.ensures.same ∙ c.loop-value.invariant.placed q)
          (c.fill.ensures.put q ∙ ap (λ k. cond (eqb q (k + 1)) (Some c.in_ok-clone.field-0) (value_in q was)) c.loop-value.invariant.position ∙ ap (λ x. cond (eqb q (i + 1)) (Some x) (value_in q was)) c.in_ok-clone.ensures.cases);
    }

pub returns-clause-placed : goal.returns-clause-placed
returns-clause-placed c = λ q. placed_all q c.loop-value.value-index c.args.values.now (filled c.loop-value.chosen) c.loop-value-test.false (c.loop-value.invariant.placed q)

pub returns-clause-within : goal.returns-clause-within
returns-clause-within c = placed_within c.loop-value.chosen c.args.values.now (λ q. sym (value_pairs q (filled c.loop-value.chosen)) ∙ returns-clause-placed c q) c.requires.few
