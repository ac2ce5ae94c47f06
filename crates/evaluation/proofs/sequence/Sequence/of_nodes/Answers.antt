use Rattle.evaluation.proofs.Limits.{too_many, few_judged}
use Rattle.evaluation.proofs.sequence.Sequence.of_nodes.Goals as goal

pub returns-then-ids-gt-MOST_ITEMS-clause-items : goal.returns-then-ids-gt-MOST_ITEMS-clause-items
returns-then-ids-gt-MOST_ITEMS-clause-items c = too_many c.args.ids.now c.if-ids-gt-MOST_ITEMS.true

pub returns-in_err-items-clause-judged : goal.returns-in_err-items-clause-judged
returns-in_err-items-clause-judged c = few_judged c.args.ids.now _ c.if-ids-gt-MOST_ITEMS.false

pub returns-in_err-one-clause-judged : goal.returns-in_err-one-clause-judged
returns-in_err-one-clause-judged c = few_judged c.args.ids.now _ c.if-ids-gt-MOST_ITEMS.false
