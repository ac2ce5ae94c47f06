use Rattle.paxq_files.specs.Script.{script}
use Rattle.program_reports.proofs.Reported.{ok-gives}
use Rattle.paxq_run.proofs.Endings.{text_run-read, ran-wrong}
use Rattle.paxq_run.proofs.run.run_text.Goals as goal

pub returns-in-Ok : goal.returns-in-Ok
returns-in-Ok g c = rw (text_run-read c.args.text.now (script c.in-Ok.script) c.in-Ok.ensures.read) c.run_commands.ensures

pub returns-in-Err-Line : goal.returns-in-Err-Line
returns-in-Err-Line g c =
    ok-gives c.wrong_line.result c.wrong_line.ensures
    (λ status h. ran-wrong c.args.text.now c.in-Err-Line.number (g.W.Write.contents c.args.output.now) (g.E.Write.contents c.args.errors.now) (g.E.Write.contents c.wrong_line.new.errors) status (rw c.in-Err-Line.field-0-is at c.in-Err-Line.ensures.wrong) h)
