use Rattle.std.proofs.Common.{length, ap, arith}
use Rattle.query_tokens.proofs.Queues.{as_many}
use Rattle.query_tokens.proofs.tokens.Tokens.left.Goals as goal

pub returns : goal.returns
returns c = omega (arith, c.len.ensures, as_many c.self.inside.marks.items c.self.inside.contents.items, ap length c.self.view_is, c.self.inside.marks.ok)
