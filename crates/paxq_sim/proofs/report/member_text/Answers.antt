use Rattle.std.proofs.Common.{sym, ap, ◌∙◌, string_bytes}
use Rattle.std.specs.Option.{option_copied}
use Rattle.program_reports.proofs.Reported.{ok-gives}
use Rattle.paxq_sim.proofs.Reports.{applied_there, stopped_line_there}
use Rattle.paxq_sim.proofs.report.member_text.Goals as goal

pub returns-in-Some : goal.returns-in-Some
returns-in-Some g c =
    ok-gives c.applied_line.result c.applied_line.ensures
    (λ text h kept v s. applied_there {A = g.row.A.Denot} g.A.Application.has_applied c.args.world.now kept v s c.args.number (string_bytes text) c.applied.result c.in-Some.node.now h (sym c.node.ensures ∙ ap option_copied c.in-Some.is) c.applied.ensures)

pub returns-in-None : goal.returns-in-None
returns-in-None g c =
    ok-gives c.stopped_line.result c.stopped_line.ensures
    (λ text h kept v s. stopped_line_there {A = g.row.A.Denot} g.A.Application.has_applied c.args.world.now kept v s c.args.number (string_bytes text) h (sym c.node.ensures ∙ ap option_copied c.in-None.is))
