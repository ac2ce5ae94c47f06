use Rattle.std.proofs.Common.{arith, ◌∙◌, sym, refl}
use Rattle.static_checks.specs.Inside.{children}
use Rattle.static_checks.proofs.Passes.{part_lower, within}
use Rattle.static_checks.proofs.Unbound.{stands_here, none_here, stands_nowhere, all_taken_back, stands_in_part, none_in_part, bound_next}
use Rattle.static_checks.proofs.variables.+has_unbound_under.Goals as goal

pub returns-then-is_unbound-clause-tells : goal.returns-then-is_unbound-clause-tells
returns-then-is_unbound-clause-tells t c = λ bound alike. stands_here c.args.x.now c.args.bound.now c.is_unbound.result c.is_unbound.ensures bound alike c.if-is_unbound.true

pub loop-y-init : goal.loop-y-init
loop-y-init t c = record {
  names = refl;
  left = λ bound alike. none_here c.args.x.now c.args.bound.now c.is_unbound.result c.is_unbound.ensures bound alike c.if-is_unbound.false;
}

pub has_unbound_under-requires : goal.has_unbound_under-requires
has_unbound_under-requires t c = omega (arith, c.decreases, part_lower c.args.x.now c.in-Some.y.now c.loop-y.index (sym c.in-Some.ensures.there))

pub returns-then-branch-clause-tells : goal.returns-then-branch-clause-tells
returns-then-branch-clause-tells t c =
    stands_in_part c.args.x.now c.args.bound.now c.loop-y.bound c.loop-y.index c.loop-y.invariant.names c.loop-y.invariant.left
    c.in-Some.y.now c.in-Some.ensures.there c.in_ok-has_unbound_under.field-0 c.in_ok-has_unbound_under.ensures.tells c.if-branch.true

pub loop-y-smaller : goal.loop-y-smaller
loop-y-smaller t c = omega (arith, within (children c.args.x.now) c.loop-y.index c.in-Some.y.now (sym c.in-Some.ensures.there))

pub loop-y-preserved : goal.loop-y-preserved
loop-y-preserved t c = record {
  names = bound_next c.args.x.now c.args.bound.now c.loop-y.bound c.loop-y.index c.loop-y.invariant.names c.loop-y.invariant.left
      c.has_unbound_under.new.bound c.bind_after.new.bound (c.in_ok-has_unbound_under.ensures.kept c.if-branch.false) c.in_ok-bind_after.ensures;
  left = none_in_part c.args.x.now c.args.bound.now c.loop-y.bound c.loop-y.index c.loop-y.invariant.names c.loop-y.invariant.left
      c.in-Some.y.now c.in-Some.ensures.there c.in_ok-has_unbound_under.field-0 c.in_ok-has_unbound_under.ensures.tells c.if-branch.false;
}

pub returns-clause-tells : goal.returns-clause-tells
returns-clause-tells t c = stands_nowhere c.args.x.now c.args.bound.now c.loop-y.bound c.loop-y.index c.loop-y.invariant.names c.loop-y.invariant.left c.in_default.ensures.there

pub returns-clause-kept : goal.returns-clause-kept
returns-clause-kept t c = λ no.
    c.truncate.ensures ∙ all_taken_back c.args.x.now c.args.bound.now c.loop-y.bound c.loop-y.index c.loop-y.invariant.names c.loop-y.invariant.left c.len-outer.result c.len-outer.ensures
