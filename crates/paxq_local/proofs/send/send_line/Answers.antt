use Rattle.std.proofs.Common.{◌≡◌, [], Some, IfOk, sym, ap, subst, ◌∙◌}
use Rattle.std.specs.Prelude.{MatchOption}
use Rattle.std.specs.Option.{option_map}
use Rattle.paxq_files.specs.Commands.{command_term}
use Rattle.paxq_files.specs.Script.{command_alone}
use Rattle.program_reports.proofs.Reported.{ok-gives}
use Rattle.paxq_local.specs.Asking.{IsGiven, IsSent, datagram_to}
use Rattle.paxq_local.proofs.Askable.{can_be_asked}
use Rattle.paxq_local.proofs.Sending.{sent-command, sent-no-command, sent-no-memory}
use Rattle.paxq_local.proofs.send.send_line.Goals as goal

pub returns-in-Ok-Some-clause-run : goal.returns-in-Ok-Some-clause-run
returns-in-Ok-Some-clause-run g c =
    ok-gives c.send_command.result c.send_command.ensures.run
    (λ status h. sent-command g.W.Wire.has_brought c.args.wire.now c.send_command.new.wire c.args.group c.args.line.now (command_term c.in-Ok-Some.command)
    (g.O.Write.contents c.args.output.now) (g.O.Write.contents c.send_command.new.output) (g.E.Write.contents c.args.errors.now) (g.E.Write.contents c.send_command.new.errors) status
    (sym c.in-Ok-Some.ensures ∙ ap (option_map command_term) c.in-Ok-Some.field-0-is) h)

pub returns-in-Ok-None-clause-run : goal.returns-in-Ok-None-clause-run
returns-in-Ok-None-clause-run g c =
    ok-gives c.wrong_line.result c.wrong_line.ensures
    (λ status h. sent-no-command g.W.Wire.has_brought c.args.wire.now c.args.group c.args.line.now
    (g.O.Write.contents c.args.output.now) (g.E.Write.contents c.args.errors.now) (g.E.Write.contents c.wrong_line.new.errors) status (sym c.in-Ok-None.ensures ∙ ap (option_map command_term) c.in-Ok-None.field-0-is) h)

pub returns-in-Err-clause-run : goal.returns-in-Err-clause-run
returns-in-Err-clause-run g c =
    ok-gives c.no_memory.result c.no_memory.ensures
    (λ status h. sent-no-memory g.W.Wire.has_brought c.args.wire.now c.args.group c.args.line.now
    (g.O.Write.contents c.args.output.now) (g.E.Write.contents c.args.errors.now) (g.E.Write.contents c.no_memory.new.errors) status h.0 h.1)

pub returns-in-Ok-Some-clause-sent : goal.returns-in-Ok-Some-clause-sent
returns-in-Ok-Some-clause-sent g c =
    let is : command_alone c.args.line.now ≡ Some (command_term c.in-Ok-Some.command) = sym c.in-Ok-Some.ensures ∙ ap (option_map command_term) c.in-Ok-Some.field-0-is in
    subst (λ o. IfOk c.send_command.result (λ status. MatchOption o (IsGiven g.W.Wire.was_given c.args.wire.now c.send_command.new.wire []) (λ command. IsSent g.W.Wire.was_given c.args.wire.now c.send_command.new.wire (datagram_to c.args.group c.args.to command) status)))
    (sym is) (c.send_command.ensures.sent (can_be_asked c.args.line.now (command_term c.in-Ok-Some.command) is))
