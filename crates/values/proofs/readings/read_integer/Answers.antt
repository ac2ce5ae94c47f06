-- The trimmed text is parsed.
use Rattle.std.proofs.Common.{ap, ◌∙◌}
use Rattle.values.specs.Readings.{signed}
use Rattle.values.proofs.Numbers.{parsed-signed}
use Rattle.values.proofs.readings.read_integer.Goals as goal

pub returns : goal.returns
returns c = c.ok.ensures.value ∙ parsed-signed c.trim.result.now c.parse.result c.parse.ensures.value.0 ∙ ap signed c.trim.ensures
