use Rattle.query_tokens.proofs.Begins.{stripped}
use Rattle.query_tokens.proofs.references.after.Goals as goal

pub returns : goal.returns
returns c = stripped c.args.mark.now c.args.text.now c.strip_prefix.result c.strip_prefix.ensures.cases
