use Rattle.std.proofs.Common.{ℕ, List, inr, subst, string_bytes}
use Rattle.std.specs.Io.KnownBytes.{Appends}
use Rattle.event_files.specs.EventFiles.{file_term}
use Rattle.program_reports.proofs.Reported.{ok-gives}
use Rattle.paxq_sim.proofs.Endings.{wrote_memory, wrote_text}
use Rattle.paxq_sim.proofs.run.run_file.Goals as goal

pub returns-in_default : goal.returns-in_default
returns-in_default g c =
    ok-gives c.no_memory.result c.no_memory.ensures
    (λ status h. inr (wrote_memory g.A.Application.meaning (g.W.Write.contents c.args.output.now) (g.W.Write.contents c.args.output.now) (g.E.Write.contents c.args.errors.now) (g.E.Write.contents c.no_memory.new.errors) status h.0 h.1))

pub returns : goal.returns
returns g c =
    let out = g.W.Write.contents c.args.output.now in
    let new = g.W.Write.contents c.write_all.new.self in
    let err = g.E.Write.contents c.args.errors.now in
    let P : List ℕ → Type 0 = Appends out new in
    wrote_text g.A.Application.meaning out new err err 0 (file_term c.args.file) (string_bytes c.in-Ok.text) c.in-Ok.ensures (subst P c.as_bytes.ensures.value c.in_ok-write_all.ensures.bytes)
