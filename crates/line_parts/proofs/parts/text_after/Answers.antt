use Rattle.line_parts.proofs.Texts.{text_after_is}
use Rattle.line_parts.proofs.parts.text_after.Goals as goal

pub returns : goal.returns
returns c = text_after_is _ _ c.strip_prefix.result c.strip_prefix.ensures.cases
