use Rattle.std.proofs.Common.{ap, ◌∙◌}
use Rattle.query_tokens.specs.Cursor.{kind_at}
use Rattle.query_tokens.proofs.Queues.{none_there, one_there}
use Rattle.query_tokens.proofs.tokens.Tokens.peek_at.Goals as goal

pub returns-in-None : goal.returns-in-None
returns-in-None c = none_there c.args.n c.self.inside.marks.items c.self.inside.contents.items c.in-None.ensures.item.3 ∙ ap (kind_at c.args.n) c.self.view_is

pub returns-in-Some : goal.returns-in-Some
returns-in-Some c =
    one_there c.args.n c.self.inside.marks.items c.self.inside.contents.items c.in-Some.mark.now c.in-Some.ensures.item.3.0 c.in-Some.ensures.lookup ∙ ap (kind_at c.args.n) c.self.view_is
