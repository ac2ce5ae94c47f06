use Rattle.std.proofs.Common.{arith, Some, ◌∙◌, sym, ap}
use Rattle.static_checks.specs.Inside.{children, taken, concluded}
use Rattle.static_checks.proofs.Passes.{part_lower, within}
use Rattle.static_checks.proofs.Walks.{ends, misplaced_in, misplaced_here, goes_on}
use Rattle.static_checks.proofs.judging.+judged.Goals as goal

pub judged-requires : goal.judged-requires
judged-requires t c = omega (arith, c.decreases, part_lower c.args.x.now c.in-Some.y.now c.loop-y.index (sym c.in-Some.ensures.there))

pub returns-in_err-category : goal.returns-in_err-category
returns-in_err-category t c =
    c.from_residual.ensures
    ∙ misplaced_in _ _ c.args.x.now c.inner_of-inner.ensures.place c.loop-y.index c.loop-y.found c.loop-y.invariant c.in-Some.y.now c.in-Some.ensures.there
    (sym c.judged.ensures ∙ c.in_err-category.was)

pub returns-in_err-found : goal.returns-in_err-found
returns-in_err-found t c =
    c.from_residual-in_err-found.ensures
    ∙ misplaced_here _ _ c.args.x.now c.inner_of-inner.ensures.place c.loop-y.index c.loop-y.found c.loop-y.invariant c.in-Some.y.now c.in-Some.ensures.there
    c.in_ok-category.category (sym c.judged.ensures ∙ c.in_ok-category.was)
    (ap (taken c.loop-y.found c.in_ok-category.category) (sym c.is_inner-may_update.ensures) ∙ sym c.taken.ensures ∙ c.in_err-found.was)

pub loop-y-smaller : goal.loop-y-smaller
loop-y-smaller t c = omega (arith, within (children c.args.x.now) c.loop-y.index c.in-Some.y.now (sym c.in-Some.ensures.there))

pub loop-y-preserved : goal.loop-y-preserved
loop-y-preserved t c =
    goes_on _ _ c.args.x.now c.inner_of-inner.ensures.place c.loop-y.index c.loop-y.found c.loop-y.invariant c.in-Some.y.now c.in-Some.ensures.there
    c.in_ok-category.category (sym c.judged.ensures ∙ c.in_ok-category.was) _
    (ap (taken c.loop-y.found c.in_ok-category.category) (sym c.is_inner-may_update.ensures) ∙ sym c.taken.ensures ∙ c.in_ok-found.was)

pub returns : goal.returns
returns t c =
    c.concluded.ensures ∙ ap (λ o. concluded o (Some c.loop-y.found)) c.inner_of-inner.ensures.own
    ∙ ends _ _ c.args.x.now c.inner_of-inner.ensures.place c.loop-y.index c.loop-y.found c.loop-y.invariant c.in_default.ensures.there
