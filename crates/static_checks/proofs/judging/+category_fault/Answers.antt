use Rattle.std.proofs.Common.{arith, is_some, sym, ap, ◌∙◌}
use Rattle.static_checks.specs.Categories.{judged}
use Rattle.static_checks.specs.Inside.{children}
use Rattle.static_checks.proofs.Codes.{goes_on, no_part, of_part}
use Rattle.static_checks.proofs.Faults.{none_is}
use Rattle.static_checks.proofs.Passes.{part_lower, within}
use Rattle.static_checks.proofs.judging.+category_fault.Goals as goal

pub category_fault-fault-requires : goal.category_fault-fault-requires
category_fault-fault-requires t c = omega (arith, c.decreases, part_lower c.args.x.now c.in-Some.y.now c.loop-y.index (sym c.in-Some.ensures.there))

pub returns-then-is_some : goal.returns-then-is_some
returns-then-is_some t c =
    c.category_fault-fault.ensures
    ∙ of_part c.args.x.now c.loop-y.index c.loop-y.invariant c.in-Some.y.now c.in-Some.ensures.there (sym (ap is_some c.category_fault-fault.ensures) ∙ (sym c.is_some.ensures ∙ c.if-is_some.true))

pub loop-y-smaller : goal.loop-y-smaller
loop-y-smaller t c = omega (arith, within (children c.args.x.now) c.loop-y.index c.in-Some.y.now (sym c.in-Some.ensures.there))

pub loop-y-preserved : goal.loop-y-preserved
loop-y-preserved t c =
    goes_on c.args.x.now c.loop-y.index c.loop-y.invariant c.in-Some.y.now c.in-Some.ensures.there
    (none_is (judged c.in-Some.y.now).fault (sym (ap is_some c.category_fault-fault.ensures) ∙ (sym c.is_some.ensures ∙ c.if-is_some.false)))

pub own_code-requires-clause-parts : goal.own_code-requires-clause-parts
own_code-requires-clause-parts t c = no_part c.args.x.now c.loop-y.index c.loop-y.invariant c.in_default.ensures.there
