use Rattle.std.proofs.Common.{arith, ◌∙◌, sym}
use Rattle.static_checks.specs.Functions.{has_unknown_call}
use Rattle.static_checks.specs.Inside.{children}
use Rattle.static_checks.proofs.Here.{unknown_out}
use Rattle.static_checks.proofs.Passes.{part_lower, any_past, within, found_here, not_here, found_in, not_in}
use Rattle.static_checks.proofs.functions.+has_unknown_call.Goals as goal

pub returns-then-is_unknown_call : goal.returns-then-is_unknown_call
returns-then-is_unknown_call t c = found_here _ _ _ _ (unknown_out c.args.x.now) c.is_unknown_call.ensures c.if-is_unknown_call.true

pub loop-y-init : goal.loop-y-init
loop-y-init t c = not_here _ _ _ _ (unknown_out c.args.x.now) c.is_unknown_call.ensures c.if-is_unknown_call.false

pub has_unknown_call-requires : goal.has_unknown_call-requires
has_unknown_call-requires t c = omega (arith, c.decreases, part_lower c.args.x.now c.in-Some.y.now c.loop-y.index (sym c.in-Some.ensures.there))

pub returns-then-has_unknown_call : goal.returns-then-has_unknown_call
returns-then-has_unknown_call t c = found_in has_unknown_call (children c.args.x.now) c.loop-y.index c.in-Some.y.now _ _ c.loop-y.invariant c.in-Some.ensures.there c.has_unknown_call.ensures c.if-has_unknown_call.true

pub loop-y-smaller : goal.loop-y-smaller
loop-y-smaller t c = omega (arith, within (children c.args.x.now) c.loop-y.index c.in-Some.y.now (sym c.in-Some.ensures.there))

pub loop-y-preserved : goal.loop-y-preserved
loop-y-preserved t c = not_in has_unknown_call (children c.args.x.now) c.loop-y.index c.in-Some.y.now _ _ c.loop-y.invariant c.in-Some.ensures.there c.has_unknown_call.ensures c.if-has_unknown_call.false

pub returns : goal.returns
returns t c = sym (any_past has_unknown_call (children c.args.x.now) c.loop-y.index (sym c.in_default.ensures.there)) ∙ c.loop-y.invariant
