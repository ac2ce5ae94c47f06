-- What the evaluation gives is what the expression means.
use Rattle.std.proofs.Common.{rules}
use Rattle.questions.proofs.Expressions.{items, code}
use Rattle.questions.proofs.answering.answer_expression.Goals as goal

pub returns-in-Ok : goal.returns-in-Ok
returns-in-Ok c =
    let same = items c.args.x.now c.args.forest.now c.is_updating.result c.is_updating.ensures c.if-is_updating.false c.in-Ok.outcome c.in-Ok.ensures.says c.in-Ok.ensures.outcome in
    search (same, c.shelf.ensures, c.items.ensures, c.answer_items.ensures, rules)

pub returns-in-Err-Code : goal.returns-in-Err-Code
returns-in-Err-Code c =
    let say = code c.args.x.now c.args.forest.now c.is_updating.result c.is_updating.ensures c.if-is_updating.false in
    search (say, c.in-Err-Code.ensures.says, rules)
