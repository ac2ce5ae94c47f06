use Rattle.std.proofs.Common.{◌∙◌, append_assoc}
use Rattle.program_reports.proofs.Reported.{ok-gives}
use Rattle.printed_replies.proofs.print.fault_text.Goals as goal

pub returns : goal.returns
returns c = ok-gives c.format.result c.format.ensures.ok (λ s h. h ∙ simp append_assoc)
