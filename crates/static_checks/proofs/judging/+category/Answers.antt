use Rattle.std.proofs.Common.{arith, if◌then◌else◌, ◌∙◌, sym, ap}
use Rattle.static_checks.specs.declared.categories.Category.TheVariants.{Simple, Vacuous}
use Rattle.static_checks.specs.Inside.{children}
use Rattle.static_checks.proofs.Passes.{part_lower, within}
use Rattle.static_checks.proofs.Results.{by_own, begins, ends, updates, goes_on}
use Rattle.static_checks.proofs.judging.+category.Goals as goal

pub returns-in-Updates : goal.returns-in-Updates
returns-in-Updates t c = sym (by_own c.args.x.now _ (sym c.in-Updates.is ∙ c.inner_of-inner.ensures.own))

pub returns-in-GivesItems : goal.returns-in-GivesItems
returns-in-GivesItems t c = sym (by_own c.args.x.now _ (sym c.in-GivesItems.is ∙ c.inner_of-inner.ensures.own))

pub loop-y-init : goal.loop-y-init
loop-y-init t c =
    begins c.args.x.now c.inner_of-inner.result.own c.inner_of-inner.result.from c.inner_of-inner.ensures.own c.in-OfResults.is
    (c.inner_of-inner.ensures.results c.in-OfResults.is).0 (c.inner_of-inner.ensures.results c.in-OfResults.is).1

pub category-found-requires : goal.category-found-requires
category-found-requires t c = omega (arith, c.decreases, part_lower c.args.x.now c.in-Some.y.now c.loop-y.index (sym c.in-Some.ensures.there))

pub returns-then-updates : goal.returns-then-updates
returns-then-updates t c =
    updates c.args.x.now c.loop-y.index c.loop-y.simple c.loop-y.invariant c.in-Some.y.now c.in-Some.ensures.there c.category-found.result c.category-found.ensures
    _ c.updates.ensures c.if-updates.true

pub loop-y-smaller : goal.loop-y-smaller
loop-y-smaller t c = omega (arith, within (children c.args.x.now) c.loop-y.index c.in-Some.y.now (sym c.in-Some.ensures.there))

pub loop-y-preserved : goal.loop-y-preserved
loop-y-preserved t c =
    goes_on c.args.x.now c.loop-y.index c.loop-y.simple c.loop-y.invariant c.in-Some.y.now c.in-Some.ensures.there c.category-found.result c.category-found.ensures
    _ _ c.updates.ensures c.if-updates.false c.is_or_was_simple-simple.ensures

pub returns-then-simple : goal.returns-then-simple
returns-then-simple t c =
    ap (λ b. if b then Simple else Vacuous) (sym c.if-simple.true) ∙ ends c.args.x.now c.loop-y.index c.loop-y.simple c.loop-y.invariant c.in_default.ensures.there

pub returns-else-simple : goal.returns-else-simple
returns-else-simple t c =
    ap (λ b. if b then Simple else Vacuous) (sym c.if-simple.false) ∙ ends c.args.x.now c.loop-y.index c.loop-y.simple c.loop-y.invariant c.in_default.ensures.there
