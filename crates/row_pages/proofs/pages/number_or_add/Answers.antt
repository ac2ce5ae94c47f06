use Rattle.std.proofs.Common.{◌≡◌, ◌∙◌, ◌/◌, ap, sym, subst, is_some, nat_eq, Some, refl}
use Rattle.std.specs.HashMap.{Updates}
use Rattle.std.specs.Option.{option_copied_mut}
use Rattle.row_pages.proofs.Numbers.{number-read, numbers-none, written-here, written-apart, made-here, made-apart}
use Rattle.row_pages.proofs.pages.number_or_add.Goals as goal

pub returns-in-Some-clause-was : goal.returns-in-Some-clause-was
returns-in-Some-clause-was c = c.fill.ensures.was ∙ sym (number-read c.args.pages.now c.args.key _ (sym c.get_mut.ensures.value ∙ ap option_copied_mut c.in-Some.is))

pub returns-in-Some-clause-here : goal.returns-in-Some-clause-here
returns-in-Some-clause-here c =
    let at = sym c.get_mut.ensures.value ∙ ap option_copied_mut c.in-Some.is in
    written-here c.args.pages.now _ c.args.key _ c.in-Some.page.now c.fill.new.page at ((c.get_mut.follows.holds c.fill.new.page).3 (ap is_some at)) c.fill.ensures.page c.fill.ensures.here

pub returns-in-Some-clause-apart : goal.returns-in-Some-clause-apart
returns-in-Some-clause-apart c =
    let at = sym c.get_mut.ensures.value ∙ ap option_copied_mut c.in-Some.is in
    written-apart c.args.pages.now _ c.args.key _ c.in-Some.page.now c.fill.new.page at ((c.get_mut.follows.holds c.fill.new.page).3 (ap is_some at)) c.fill.ensures.page

pub returns-in-Ok-clause-was : goal.returns-in-Ok-clause-was
returns-in-Ok-clause-was c = sym (numbers-none c.args.pages.now (c.args.key / 16) (sym c.get_mut.ensures.value ∙ ap option_copied_mut c.in_default.is) c.args.key refl)

pub returns-in-Ok-clause-here : goal.returns-in-Ok-clause-here
returns-in-Ok-clause-here c =
    let z : c.get_mut.follows.lender-at-none ≡ c.args.pages.now = c.get_mut.follows.holds-at-none in
    made-here c.args.pages.now c.insert.new.self c.args.key c.args.number _ (sym c.get_mut.ensures.value ∙ ap option_copied_mut c.in_default.is) (subst (λ m. Updates nat_eq m c.insert.new.self (c.args.key / 16) (Some c.write.new.page)) z c.in-Ok.ensures.updates) c.write.ensures.page c.write.ensures.here

pub returns-in-Ok-clause-apart : goal.returns-in-Ok-clause-apart
returns-in-Ok-clause-apart c =
    let z : c.get_mut.follows.lender-at-none ≡ c.args.pages.now = c.get_mut.follows.holds-at-none in
    made-apart c.args.pages.now c.insert.new.self c.args.key c.args.number _ (sym c.get_mut.ensures.value ∙ ap option_copied_mut c.in_default.is) (subst (λ m. Updates nat_eq m c.insert.new.self (c.args.key / 16) (Some c.write.new.page)) z c.in-Ok.ensures.updates) c.write.ensures.page
