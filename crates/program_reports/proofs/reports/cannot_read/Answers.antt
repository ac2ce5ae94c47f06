use Rattle.std.proofs.Common.{◌≡◌, ◌++◌, List, ℕ, codes, ◌∙◌, subst}
use Rattle.std.specs.Io.KnownBytes.{Appends}
use Rattle.program_reports.specs.Reports.{unreadable_run, line_feed}
use Rattle.program_reports.proofs.Reported.{ok-gives, ran-unreadable, ran-nothing}
use Rattle.program_reports.proofs.reports.cannot_read.Goals as goal

pub returns-in_ok-write_all-in-Ok : goal.returns-in_ok-write_all-in-Ok
returns-in_ok-write_all-in-Ok g c = λ known.
    (let text : c.as_bytes.result.now ≡ codes "paxq: cannot read " ++ c.args.file.now ++ line_feed = c.as_bytes.ensures.value ∙ c.in-Ok.ensures.ok in
    let P : List ℕ → Type 0 = Appends (g.E.Write.contents c.args.errors.now) (g.E.Write.contents c.write_all.new.self) in
    ran-unreadable c.args.file.now known (g.E.Write.contents c.args.errors.now) (g.E.Write.contents c.write_all.new.self) (subst P text c.in_ok-write_all-in-Ok.ensures.bytes))

pub returns-in-Err : goal.returns-in-Err
returns-in-Err g c =
    ok-gives c.no_memory.result c.no_memory.ensures
    (λ status h known. ran-nothing known (g.E.Write.contents c.args.errors.now) (g.E.Write.contents c.no_memory.new.errors) (unreadable_run c.args.file.now) status h.0 h.1)
