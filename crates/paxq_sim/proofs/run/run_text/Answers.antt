use Rattle.std.proofs.Common.{subst, sym}
use Rattle.event_files.specs.EventFiles.{EventFileRead, file_of}
use Rattle.program_reports.proofs.Reported.{ok-gives}
use Rattle.paxq_sim.specs.Ran.{ReadRan}
use Rattle.paxq_sim.proofs.Endings.{wrote_none, wrote_wrong}
use Rattle.paxq_sim.proofs.run.run_text.Goals as goal

pub returns-in-Ok : goal.returns-in-Ok
returns-in-Ok g c =
    ok-gives c.run_file.result c.run_file.ensures
    (λ status h. subst (λ (r : EventFileRead). ReadRan g.A.Application.meaning r (g.W.Write.contents c.args.output.now, g.W.Write.contents c.run_file.new.output) (g.E.Write.contents c.args.errors.now, g.E.Write.contents c.run_file.new.errors) status)
    (sym c.in-Ok.ensures.read) h)

pub returns-in-Err-Line : goal.returns-in-Err-Line
returns-in-Err-Line g c =
    ok-gives c.wrong_line.result c.wrong_line.ensures
    (λ status h. wrote_wrong g.A.Application.meaning (g.W.Write.contents c.args.output.now) (g.W.Write.contents c.args.output.now) (g.E.Write.contents c.args.errors.now) (g.E.Write.contents c.wrong_line.new.errors) status
    c.args.bytes.now c.in-Err-Line.number (rw c.in-Err-Line.field-0-is at c.in-Err-Line.ensures.wrong) h)

pub returns-in-Err-Memory : goal.returns-in-Err-Memory
returns-in-Err-Memory g c =
    ok-gives c.no_memory.result c.no_memory.ensures
    (λ status h. wrote_none g.A.Application.meaning (g.W.Write.contents c.args.output.now) (g.W.Write.contents c.args.output.now) (g.E.Write.contents c.args.errors.now) (g.E.Write.contents c.no_memory.new.errors) status
    (file_of c.args.bytes.now) h.0 h.1)
