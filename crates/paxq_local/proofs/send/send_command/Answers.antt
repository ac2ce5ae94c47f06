use Rattle.std.proofs.Common.{List, ℕ, Ok, ap, ◌∙◌, subst}
use Rattle.std.specs.Io.KnownBytes.{Appends}
use Rattle.paxq_files.specs.Commands.{command_term}
use Rattle.program_reports.proofs.Reported.{ok-gives}
use Rattle.paxq_local.specs.Asking.{datagram_to}
use Rattle.paxq_local.proofs.Giving.{sent-answered, sent-refused, sent-unanswered}
use Rattle.paxq_local.proofs.Sending.{asked-answered, asked-unanswered, asked-no-memory}
use Rattle.paxq_local.proofs.send.send_command.Goals as goal

pub returns-in_ok-write_all-in-Ok-Some-clause-run : goal.returns-in_ok-write_all-in-Ok-Some-clause-run
returns-in_ok-write_all-in-Ok-Some-clause-run g c =
    asked-answered g.W.Wire.has_brought c.args.wire.now c.ask_command.new.wire c.args.group (command_term c.args.command) c.ask_command.result c.in-Ok-Some.said
    (g.O.Write.contents c.args.output.now) (g.O.Write.contents c.write_all.new.self) (g.E.Write.contents c.args.errors.now) c.ask_command.ensures.said (c.in-Ok-Some.is ∙ ap Ok c.in-Ok-Some.field-0-is)
    (let Q : List ℕ → Type 0 = Appends (g.O.Write.contents c.args.output.now) (g.O.Write.contents c.write_all.new.self) in subst Q c.as_bytes.ensures.value c.in_ok-write_all-in-Ok-Some.ensures.bytes)

pub returns-in_ok-write_all-in-Ok-None-clause-run : goal.returns-in_ok-write_all-in-Ok-None-clause-run
returns-in_ok-write_all-in-Ok-None-clause-run g c =
    asked-unanswered g.W.Wire.has_brought c.args.wire.now c.ask_command.new.wire c.args.group (command_term c.args.command) c.ask_command.result
    (g.O.Write.contents c.args.output.now) (g.O.Write.contents c.write_all-in-Ok-None.new.self) (g.E.Write.contents c.args.errors.now) c.ask_command.ensures.said c.in_ok-write_all-in-Ok-None.ensures.bytes

pub returns-in-Err-clause-run : goal.returns-in-Err-clause-run
returns-in-Err-clause-run g c =
    ok-gives c.no_memory.result c.no_memory.ensures
    (λ status h. asked-no-memory g.W.Wire.has_brought c.args.wire.now c.ask_command.new.wire c.args.group (command_term c.args.command) c.ask_command.result
    (g.O.Write.contents c.args.output.now) (g.E.Write.contents c.args.errors.now) (g.E.Write.contents c.no_memory.new.errors) status c.ask_command.ensures.said h.0 h.1)

pub returns-in_ok-write_all-in-Ok-Some-clause-sent : goal.returns-in_ok-write_all-in-Ok-Some-clause-sent
returns-in_ok-write_all-in-Ok-Some-clause-sent g c can =
    sent-answered g.W.Wire.was_given c.args.wire.now c.ask_command.new.wire (datagram_to c.args.group c.args.to (command_term c.args.command)) c.ask_command.result c.in-Ok-Some.said (c.in-Ok-Some.is ∙ ap Ok c.in-Ok-Some.field-0-is) (c.ask_command.ensures.sent can)

pub returns-in_ok-write_all-in-Ok-None-clause-sent : goal.returns-in_ok-write_all-in-Ok-None-clause-sent
returns-in_ok-write_all-in-Ok-None-clause-sent g c can =
    sent-unanswered g.W.Wire.was_given c.args.wire.now c.ask_command.new.wire (datagram_to c.args.group c.args.to (command_term c.args.command)) c.ask_command.result (c.in-Ok-None.is ∙ ap Ok c.in-Ok-None.field-0-is) (c.ask_command.ensures.sent can)

pub returns-in-Err-clause-sent : goal.returns-in-Err-clause-sent
returns-in-Err-clause-sent g c can =
    ok-gives c.no_memory.result c.no_memory.ensures
    (λ status h. sent-refused g.W.Wire.was_given c.args.wire.now c.ask_command.new.wire (datagram_to c.args.group c.args.to (command_term c.args.command)) c.ask_command.result status h.0 (c.ask_command.ensures.sent can))
