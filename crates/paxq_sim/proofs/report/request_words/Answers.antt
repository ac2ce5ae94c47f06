use Rattle.std.proofs.Common.{◌∙◌, append_assoc}
use Rattle.program_reports.proofs.Reported.{ok-gives}
use Rattle.paxq_sim.proofs.report.request_words.Goals as goal

pub returns : goal.returns
returns c = ok-gives c.format.result c.format.ensures.ok (λ s h. h ∙ simp append_assoc)
