use Rattle.std.proofs.Common.{ap, ◌∙◌}
use Rattle.std.specs.Option.{option_copied}
use Rattle.event_files.proofs.FirstLines.{utf8_of-from}
use Rattle.event_files.proofs.lines.utf8_of.Goals as goal

pub returns : goal.returns
returns c = ap option_copied c.ok.ensures.value ∙ utf8_of-from _ _ c.from_utf8.result c.from_utf8.ensures.cases
