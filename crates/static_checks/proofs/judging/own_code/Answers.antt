use Rattle.std.proofs.Common.{sym, ap, ◌∙◌}
use Rattle.static_checks.specs.declared.judging.Found.{Found}
use Rattle.static_checks.proofs.Codes.{changed_by_simple, misplaced}
use Rattle.static_checks.proofs.judging.own_code.Goals as goal

pub returns-then-is_changed_by_simple : goal.returns-then-is_changed_by_simple
returns-then-is_changed_by_simple c =
    let is = c.is_changed_by_simple.ensures.is c.if-is_changed_by_simple.true in
    changed_by_simple c.args.x.now c.inner_of-inner.result.from c.inner_of-inner.result.to c.inner_of-inner.ensures.place c.requires.parts
    (sym c.inner_of-inner.ensures.own ∙ is.0)
    (sym (ap (λ (f : Found). f.simple) c.found_between-changes.ensures) ∙ is.1.0)
    (sym (ap (λ (f : Found). f.updates) c.found_between-before.ensures) ∙ is.1.1)

pub returns-else-is_changed_by_simple : goal.returns-else-is_changed_by_simple
returns-else-is_changed_by_simple c =
    misplaced c.args.x.now c.inner_of-inner.result.from c.inner_of-inner.result.to c.inner_of-inner.ensures.place c.requires.parts c.requires.faulty
    (λ own simple. sym (ap (λ (f : Found). f.updates) c.found_between-before.ensures) ∙ c.is_changed_by_simple.ensures.not c.if-is_changed_by_simple.false (c.inner_of-inner.ensures.own ∙ own)
    (ap (λ (f : Found). f.simple) c.found_between-changes.ensures ∙ simple))
