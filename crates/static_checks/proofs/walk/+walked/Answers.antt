use Rattle.std.proofs.Common.{arith, inl, inr, refl, subst, ◌∙◌, sym, ap, Some, IsSome}
use Rattle.static_checks.specs.Inside.{children, concluded, taken}
use Rattle.static_checks.specs.Walk.{IsWalked}
use Rattle.static_checks.proofs.Here.{twice_out, unknown_out}
use Rattle.static_checks.proofs.Passes.{found_here, not_here, part_lower, within}
use Rattle.static_checks.proofs.Unbound.{all_taken_back, bound_next, none_here, stands_here}
use Rattle.static_checks.proofs.Whole.{ends, faulty, goes_on, misplaced}
use Rattle.static_checks.proofs.walk.+walked.Goals as goal

pub returns-then-is_unknown_call-clause-tells : goal.returns-then-is_unknown_call-clause-tells
returns-then-is_unknown_call-clause-tells t c = inl (found_here _ _ _ _ (unknown_out c.args.x.now) c.is_unknown_call.ensures c.if-is_unknown_call.true)

pub returns-then-has_twice_bound-clause-tells : goal.returns-then-has_twice_bound-clause-tells
returns-then-has_twice_bound-clause-tells t c = inr (inl (found_here _ _ _ _ (twice_out c.args.x.now) c.has_twice_bound.ensures c.if-has_twice_bound.true))

pub returns-then-is_unbound-clause-tells : goal.returns-then-is_unbound-clause-tells
returns-then-is_unbound-clause-tells t c =
    inr (inr (inl (λ bound alike. stands_here c.args.x.now c.args.bound.now c.is_unbound.result c.is_unbound.ensures bound alike c.if-is_unbound.true)))

pub loop-y-init : goal.loop-y-init
loop-y-init t c = record {
  functions = not_here _ _ _ _ (unknown_out c.args.x.now) c.is_unknown_call.ensures c.if-is_unknown_call.false;
  twice = not_here _ _ _ _ (twice_out c.args.x.now) c.has_twice_bound.ensures c.if-has_twice_bound.false;
  bound = refl;
  variables = λ bound alike. none_here c.args.x.now c.args.bound.now c.is_unbound.result c.is_unbound.ensures bound alike c.if-is_unbound.false;
  place = refl;
}

pub walked-requires : goal.walked-requires
walked-requires t c = omega (arith, c.decreases, part_lower c.args.x.now c.in-Some.y.now c.loop-y.index (sym c.in-Some.ensures.there))

pub returns-in_default-2-clause-tells : goal.returns-in_default-2-clause-tells
returns-in_default-2-clause-tells t c =
    faulty c.args.x.now c.args.bound.now c.loop-y.bound _ _ c.loop-y.index c.loop-y.found c.loop-y.invariant c.inner_of-inner.ensures.place
    c.in-Some.y.now c.in-Some.ensures.there (subst (IsWalked c.in-Some.y.now c.loop-y.bound) c.in_default-2.is c.in_ok-category.ensures.tells)

pub returns-in_default-taken-clause-tells : goal.returns-in_default-taken-clause-tells
returns-in_default-taken-clause-tells t c =
    misplaced c.args.x.now c.args.bound.now c.loop-y.bound _ _ c.loop-y.index c.loop-y.found c.loop-y.invariant c.inner_of-inner.ensures.place
    c.in-Some.y.now c.in-Some.ensures.there c.in-Some-2.category (subst (IsWalked c.in-Some.y.now c.loop-y.bound) c.in-Some-2.is c.in_ok-category.ensures.tells)
    (ap (taken c.loop-y.found c.in-Some-2.category) (sym c.is_inner-may_update.ensures) ∙ sym c.taken.ensures ∙ c.in_default-taken.is)

pub loop-y-smaller : goal.loop-y-smaller
loop-y-smaller t c = omega (arith, within (children c.args.x.now) c.loop-y.index c.in-Some.y.now (sym c.in-Some.ensures.there))

pub loop-y-preserved : goal.loop-y-preserved
loop-y-preserved t c =
    goes_on c.args.x.now c.args.bound.now c.loop-y.bound _ _ c.loop-y.index c.loop-y.found c.loop-y.invariant c.inner_of-inner.ensures.place
    c.in-Some.y.now c.in-Some.ensures.there c.in-Some-2.category (subst (IsWalked c.in-Some.y.now c.loop-y.bound) c.in-Some-2.is c.in_ok-category.ensures.tells)
    c.in-Some-taken.more c.bind_after.new.bound
    (ap (taken c.loop-y.found c.in-Some-2.category) (sym c.is_inner-may_update.ensures) ∙ sym c.taken.ensures ∙ c.in-Some-taken.is)
    (bound_next c.args.x.now c.args.bound.now c.loop-y.bound c.loop-y.index c.loop-y.invariant.bound c.loop-y.invariant.variables
    c.walked.new.bound c.bind_after.new.bound (c.in_ok-category.ensures.kept (subst IsSome (sym c.in-Some-2.is) refl)) c.in_ok-bind_after.ensures)

pub returns-clause-tells : goal.returns-clause-tells
returns-clause-tells t c =
    ends c.args.x.now c.args.bound.now c.loop-y.bound _ _ c.loop-y.index c.loop-y.found c.loop-y.invariant c.inner_of-inner.ensures.place
    c.in_default.ensures.there c.concluded.result (c.concluded.ensures ∙ ap (λ o. concluded o (Some c.loop-y.found)) c.inner_of-inner.ensures.own)

pub returns-clause-kept : goal.returns-clause-kept
returns-clause-kept t c = λ some.
    c.truncate.ensures ∙ all_taken_back c.args.x.now c.args.bound.now c.loop-y.bound c.loop-y.index c.loop-y.invariant.bound c.loop-y.invariant.variables c.len-outer.result c.len-outer.ensures
