use Rattle.std.proofs.Common.{◌∙◌, ap, reverse, w64, FitsSigned, rules}
use Rattle.std.proofs.lemmas.Int.{to_z-of_z}
use Rattle.std.proofs.lemmas.Result.{err_from_is_err_and}
use Rattle.query_meaning.specs.Operators.{with_sign}
use Rattle.query_meaning.specs.Running.{each}
use Rattle.query_control.proofs.Signing.{goes_on, ends}
use Rattle.query_control.proofs.signs.with_signs.Goals as goal

pub loop-sign-preserved : goal.loop-sign-preserved
loop-sign-preserved c = λ run.
    let fits : FitsSigned w64 c.in_ok-value.value = search rules in
    ap (λ z. each with_sign 0 (reverse c.in-Some.before.now) z run) (to_z-of_z w64 c.in_ok-value.value fits)
    ∙ goes_on _ _ _ _ _ run _ c.in-Some.ensures.cases.0 c.in_ok-value.ensures (c.loop-sign.invariant run)

pub returns-in_err-value : goal.returns-in_err-value
returns-in_err-value c = λ run.
    let p = err_from_is_err_and c.from_residual.result c.from_residual.ensures.1 in
    rw (p.1, p.2) (ends _ _ _ _ _ run _ c.in-Some.ensures.cases.0 c.in_err-value.ensures (c.loop-sign.invariant run ∙ ap (λ z. each with_sign 0 (reverse c.args.signs.now) z run) (to_z-of_z w64 c.args.operand c.ranges.operand)))
