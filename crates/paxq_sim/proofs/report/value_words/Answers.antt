use Rattle.std.proofs.Common.{string_bytes}
use Rattle.program_reports.proofs.Reported.{ok-gives}
use Rattle.paxq_sim.proofs.Reports.{words_of}
use Rattle.paxq_sim.proofs.report.value_words.Goals as goal

pub returns-in-Request : goal.returns-in-Request
returns-in-Request c = ok-gives c.request_words.result c.request_words.ensures (λ text h. words_of (string_bytes text) c.id.result c.in-Request.request c.args.value.now h c.id.ensures c.in-Request.is)
