use Rattle.std.proofs.Common.{inr}
use Rattle.program_reports.proofs.Reported.{ok-gives}
use Rattle.paxq_sim.proofs.run.run_events.Goals as goal

pub returns-in-Err-Failed : goal.returns-in-Err-Failed
returns-in-Err-Failed g c = ok-gives c.cannot_read.result c.cannot_read.ensures (λ status h. inr (h (g.W.Write.contents c.args.output.now)))
