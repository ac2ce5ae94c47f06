use Rattle.std.proofs.Common.{arith, ◌∙◌, sym}
use Rattle.static_checks.specs.Variables.{binds_a_name_twice}
use Rattle.static_checks.specs.Inside.{children}
use Rattle.static_checks.proofs.Here.{twice_out}
use Rattle.static_checks.proofs.Passes.{part_lower, any_past, within, found_here, not_here, found_in, not_in}
use Rattle.static_checks.proofs.variables.+binds_a_name_twice.Goals as goal

pub returns-then-has_twice_bound : goal.returns-then-has_twice_bound
returns-then-has_twice_bound t c = found_here _ _ _ _ (twice_out c.args.x.now) c.has_twice_bound.ensures c.if-has_twice_bound.true

pub loop-y-init : goal.loop-y-init
loop-y-init t c = not_here _ _ _ _ (twice_out c.args.x.now) c.has_twice_bound.ensures c.if-has_twice_bound.false

pub binds_a_name_twice-requires : goal.binds_a_name_twice-requires
binds_a_name_twice-requires t c = omega (arith, c.decreases, part_lower c.args.x.now c.in-Some.y.now c.loop-y.index (sym c.in-Some.ensures.there))

pub returns-then-binds_a_name_twice : goal.returns-then-binds_a_name_twice
returns-then-binds_a_name_twice t c = found_in binds_a_name_twice (children c.args.x.now) c.loop-y.index c.in-Some.y.now _ _ c.loop-y.invariant c.in-Some.ensures.there c.binds_a_name_twice.ensures c.if-binds_a_name_twice.true

pub loop-y-smaller : goal.loop-y-smaller
loop-y-smaller t c = omega (arith, within (children c.args.x.now) c.loop-y.index c.in-Some.y.now (sym c.in-Some.ensures.there))

pub loop-y-preserved : goal.loop-y-preserved
loop-y-preserved t c = not_in binds_a_name_twice (children c.args.x.now) c.loop-y.index c.in-Some.y.now _ _ c.loop-y.invariant c.in-Some.ensures.there c.binds_a_name_twice.ensures c.if-binds_a_name_twice.false

pub returns : goal.returns
returns t c = sym (any_past binds_a_name_twice (children c.args.x.now) c.loop-y.index (sym c.in_default.ensures.there)) ∙ c.loop-y.invariant
