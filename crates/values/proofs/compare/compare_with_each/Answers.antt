-- At each return the walk over the pairs has ended.
use Rattle.std.proofs.Common.{◌≡◌, ◌⊎◌, inl, inr, ◌<◌, true, Ok, Err, refl, sym, ap, ◌∙◌, subst}
use Rattle.std.proofs.lemmas.Result.{err_from_is_err_and}
use Rattle.values.specs.Comparisons.{pair_compared, pair_work}
use Rattle.values.proofs.Pairs.{no-more, one-true, one-fault, none-true}
use Rattle.values.proofs.compare.compare_with_each.Goals.{then-turns-eq0-via-then-turns-eq0, then-turns-eq0-via-else-turns-eq0+then-work-pair}
use Rattle.values.proofs.compare.compare_with_each.Goals as goal

pub returns-then-turns-eq0-clause-compared : goal.returns-then-turns-eq0-clause-compared
returns-then-turns-eq0-clause-compared c =
    let z : (c.loop-other.turns ≡ 0) ⊎ (c.loop-other.work < pair_work c.args.left.now c.other-item.result) = elim c.then-turns-eq0.branch [ then-turns-eq0-via-then-turns-eq0 w ↦ inl w.if-turns-eq0.true | then-turns-eq0-via-else-turns-eq0+then-work-pair w ↦ inr (subst (λ v. c.loop-other.work < v) c.pair_work-pair.ensures w.if-work-pair.true) ] in
    (no-more (pair_compared c.args.op c.args.left.now) (pair_work c.args.left.now) c.args.right.now c.loop-other.other-index c.loop-other.turns c.loop-other.work c.args.turns.now c.args.work.now c.loop-other.invariant c.other-item.result c.loop-other-test.true c.other-item.is z).result

pub returns-in_err-compare_pair-clause-compared : goal.returns-in_err-compare_pair-clause-compared
returns-in_err-compare_pair-clause-compared c =
    let p = err_from_is_err_and c.from_residual.result c.from_residual.ensures.1 in
    let e = one-fault (pair_compared c.args.op c.args.left.now) (pair_work c.args.left.now) c.args.right.now c.loop-other.other-index c.loop-other.turns c.loop-other.work c.args.turns.now c.args.work.now c.loop-other.invariant c.other-item.result c.loop-other-test.true c.other-item.is (Err c.in_err-compare_pair.field-0.0) c.in_err-compare_pair.ensures c.pair_work-pair.result c.pair_work-pair.ensures c.if-turns-eq0.false c.if-work-pair.false c.in_err-compare_pair.field-0.0 refl in
    p.1 ∙ ap Err p.2 ∙ e.result

pub returns-then-branch : goal.returns-then-branch
returns-then-branch c =
    let e = one-true (pair_compared c.args.op c.args.left.now) (pair_work c.args.left.now) c.args.right.now c.loop-other.other-index c.loop-other.turns c.loop-other.work c.args.turns.now c.args.work.now c.loop-other.invariant c.other-item.result c.loop-other-test.true c.other-item.is (Ok true) (ap Ok (sym c.if-branch.true) ∙ c.in_ok-compare_pair.ensures) c.pair_work-pair.result c.pair_work-pair.ensures c.if-turns-eq0.false c.if-work-pair.false refl in
    record { compared = e.result; left = e.left }

pub returns : goal.returns
returns c =
    let e = none-true (pair_compared c.args.op c.args.left.now) (pair_work c.args.left.now) c.args.right.now c.loop-other.other-index c.loop-other.turns c.loop-other.work c.args.turns.now c.args.work.now c.loop-other.invariant c.loop-other-test.false in
    record { compared = e.result; left = e.left }
