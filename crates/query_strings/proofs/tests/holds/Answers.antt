use Rattle.std.proofs.lemmas.Str.Pattern.{contains_text}
use Rattle.query_strings.proofs.Holding.{holds_is}
use Rattle.query_strings.proofs.tests.holds.Goals as goal

pub returns : goal.returns
returns c = holds_is _ c.args.part.now c.args.text.now (contains_text _ c.args.part.now c.args.text.now c.contains.ensures.cases)
