use Rattle.std.proofs.Common.{ℕ, Ok, ◌∙◌, ap, length, subst}
use Rattle.std.proofs.lemmas.Result.{err_from_is_err_and}
use Rattle.fault_codes.specs.declared.code.Code.{Code}
use Rattle.query_meaning.specs.Meaning.{mean}
use Rattle.query_meaning.specs.Paths.{mixed_code, segment}
use Rattle.query_meaning.specs.Running.{counted}
use Rattle.evaluation.specs.Gives.{Fails, Stand}
use Rattle.evaluation.proofs.Each.{stops_mapped, ends_mapped}
use Rattle.query_paths.proofs.Finds.{followed_gives}
use Rattle.query_paths.proofs.filters.Paths.followed.Goals as goal

pub returns-in_err-left : goal.returns-in_err-left
returns-in_err-left g c =
    let p = err_from_is_err_and c.from_residual.result c.from_residual.ensures.1 in
    let n = length c.args.parts.now in
    let mixed = c.mixed_code-mixed.ensures ∙ ap (mixed_code n) c.loop-part.invariant.0 in
    let fails = subst (λ (code : Code). Fails (counted (segment code c.args.env.now c.loop-part.left (mean c.part-item.result)) c.loop-part.run) c.in_err-left.field-0.0) mixed c.in_err-left.ensures in
    followed_gives c.args.parts.now c.args.env.now c.args.items c.args.run.now c.counted_segment.new.run c.from_residual.result
    (rw (p.1, p.2) (stops_mapped Stand (λ (i : ℕ) given m. counted (segment (mixed_code n i) c.args.env.now given m)) mean _ _ _ _ _ _ c.counted_segment.new.run c.part-item.result _ c.loop-part.invariant.1 c.loop-part-test.true c.part-item.is fails))

pub returns : goal.returns
returns g c =
    followed_gives c.args.parts.now c.args.env.now c.args.items c.args.run.now c.loop-part.run (Ok c.loop-part.left)
    (ends_mapped Stand (λ (i : ℕ) given m. counted (segment (mixed_code (length c.args.parts.now) i) c.args.env.now given m)) mean _ _ _ _ _ _ c.loop-part.invariant.1 c.loop-part-test.false)
