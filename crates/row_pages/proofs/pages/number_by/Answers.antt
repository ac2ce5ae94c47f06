use Rattle.std.proofs.Common.{◌∙◌, ap, sym}
use Rattle.std.specs.Option.{option_copied}
use Rattle.row_pages.proofs.Numbers.{number-at-hand, number-read}
use Rattle.row_pages.proofs.pages.number_by.Goals as goal

pub returns-in-Some-clause-number : goal.returns-in-Some-clause-number
returns-in-Some-clause-number c = number-at-hand c.args.pages.now c.args.at_hand.now c.in-Some.page c.args.key c.requires c.in-Some.is c.if-at_hand-key.true

pub returns-in-Some-get-clause-number : goal.returns-in-Some-get-clause-number
returns-in-Some-get-clause-number c = sym (number-read c.args.pages.now c.args.key _ (sym c.get.ensures.value ∙ ap option_copied c.in-Some-get.is))

pub returns-in-None-clause-number : goal.returns-in-None-clause-number
returns-in-None-clause-number c = sym (number-read c.args.pages.now c.args.key _ (sym c.get.ensures.value ∙ ap option_copied c.in-None.is))
