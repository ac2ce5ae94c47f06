use Rattle.std.proofs.Common.{IfOk, Ok, ap, refl, ◌∙◌}
use Rattle.paxq_files.specs.Commands.{command_term}
use Rattle.paxq_files.specs.Script.{ScriptTerm}
use Rattle.paxq_local.specs.Asking.{form_of, id_of}
use Rattle.paxq_local.specs.Members.{IsToldAs, question_after}
use Rattle.paxq_local.specs.Sent.{AreTriedFor}
use Rattle.paxq_local.specs.declared.answers.Told.{Told}
use Rattle.paxq_local.proofs.Both.{both-none, both-of}
use Rattle.paxq_local.proofs.Lines.{Going, going-start, plays-on, plays-out, plays-refused, plays-to-end, plays-unprinted}
use Rattle.paxq_local.proofs.local.play.Goals as goal

pub loop-command-init : goal.loop-command-init
loop-command-init g c = record {
  peers = refl;
  both = both-none g.W.Wire.has_brought g.W.Wire.was_given c.args.wire.now
      (λ came went. Going g.W.Address.PartialEq.eq c.args.client.now.peers.items c.args.members c.args.client.now.asked c.args.client.now.floor c.args.script.now.commands c.args.client.now.asked c.args.client.now.floor c.args.script.now.commands came went
      (g.O.Write.contents c.args.output.now) (g.O.Write.contents c.args.output.now))
      (going-start g.W.Address.PartialEq.eq c.args.client.now.peers.items c.args.members c.args.client.now.asked c.args.client.now.floor c.args.script.now.commands (g.O.Write.contents c.args.output.now));
}

pub returns-in_default-tell : goal.returns-in_default-tell
returns-in_default-tell g c =
    plays-refused g.W.Wire.has_brought g.W.Wire.was_given g.W.Address.PartialEq.eq c.args.client.now.peers.items c.args.members c.args.client.now.asked c.args.client.now.floor c.args.script.now.commands c.args.wire.now c.loop-command.wire c.loop-command.client.asked c.loop-command.client.floor c.loop-command.script.commands
    (g.O.Write.contents c.args.output.now) (g.O.Write.contents c.loop-command.output) c.loop-command.invariant.both
    c.tell.new.wire (command_term c.in-Some.command) c.next_command.new.self.commands c.loop-command.client.peers.items c.tell.new.self.floor c.tell.result
    (both-of g.W.Wire.has_brought g.W.Wire.was_given c.loop-command.wire c.tell.new.wire
    (λ came. IfOk c.tell.result (λ (t : Told). IsToldAs g.W.Address.PartialEq.eq c.loop-command.client.peers.items came c.args.members (form_of (command_term c.in-Some.command)) (id_of (question_after c.loop-command.client.asked) (command_term c.in-Some.command)) c.loop-command.client.floor c.tell.new.self.floor t))
    (AreTriedFor c.loop-command.client.peers.items c.loop-command.client.asked c.loop-command.client.floor (command_term c.in-Some.command) c.tell.result) c.tell.ensures.told c.tell.ensures.sent)
    (ap (λ (s : ScriptTerm). s.commands) c.in-Some.ensures.taken) c.loop-command.invariant.peers

pub loop-command-preserved : goal.loop-command-preserved
loop-command-preserved g c = record {
  peers = c.tell.ensures.peers ∙ c.loop-command.invariant.peers;
  both = plays-on g.W.Wire.has_brought g.W.Wire.was_given g.W.Address.PartialEq.eq c.args.client.now.peers.items c.args.members c.args.client.now.asked c.args.client.now.floor c.args.script.now.commands c.args.wire.now c.loop-command.wire c.loop-command.client.asked c.loop-command.client.floor c.loop-command.script.commands
      (g.O.Write.contents c.args.output.now) (g.O.Write.contents c.loop-command.output) c.loop-command.invariant.both
      c.tell.new.wire (command_term c.in-Some.command) c.next_command.new.self.commands c.loop-command.client.peers.items c.tell.new.self.floor c.tell.result
      (both-of g.W.Wire.has_brought g.W.Wire.was_given c.loop-command.wire c.tell.new.wire
      (λ came. IfOk c.tell.result (λ (t : Told). IsToldAs g.W.Address.PartialEq.eq c.loop-command.client.peers.items came c.args.members (form_of (command_term c.in-Some.command)) (id_of (question_after c.loop-command.client.asked) (command_term c.in-Some.command)) c.loop-command.client.floor c.tell.new.self.floor t))
      (AreTriedFor c.loop-command.client.peers.items c.loop-command.client.asked c.loop-command.client.floor (command_term c.in-Some.command) c.tell.result) c.tell.ensures.told c.tell.ensures.sent)
      (ap (λ (s : ScriptTerm). s.commands) c.in-Some.ensures.taken) c.loop-command.invariant.peers c.in-Ok.told c.in-Ok.is (g.O.Write.contents c.print.new.output) c.print.result c.print.ensures
      c.tell.new.self.asked c.tell.ensures.count (c.in-Ok-None.is ∙ ap Ok c.in-Ok-None.field-0-is);
}

pub returns-in-Ok-Some : goal.returns-in-Ok-Some
returns-in-Ok-Some g c =
    plays-out g.W.Wire.has_brought g.W.Wire.was_given g.W.Address.PartialEq.eq c.args.client.now.peers.items c.args.members c.args.client.now.asked c.args.client.now.floor c.args.script.now.commands c.args.wire.now c.loop-command.wire c.loop-command.client.asked c.loop-command.client.floor c.loop-command.script.commands
    (g.O.Write.contents c.args.output.now) (g.O.Write.contents c.loop-command.output) c.loop-command.invariant.both
    c.tell.new.wire (command_term c.in-Some.command) c.next_command.new.self.commands c.loop-command.client.peers.items c.tell.new.self.floor c.tell.result
    (both-of g.W.Wire.has_brought g.W.Wire.was_given c.loop-command.wire c.tell.new.wire
    (λ came. IfOk c.tell.result (λ (t : Told). IsToldAs g.W.Address.PartialEq.eq c.loop-command.client.peers.items came c.args.members (form_of (command_term c.in-Some.command)) (id_of (question_after c.loop-command.client.asked) (command_term c.in-Some.command)) c.loop-command.client.floor c.tell.new.self.floor t))
    (AreTriedFor c.loop-command.client.peers.items c.loop-command.client.asked c.loop-command.client.floor (command_term c.in-Some.command) c.tell.result) c.tell.ensures.told c.tell.ensures.sent)
    (ap (λ (s : ScriptTerm). s.commands) c.in-Some.ensures.taken) c.loop-command.invariant.peers c.in-Ok.told c.in-Ok.is (g.O.Write.contents c.print.new.output) c.print.result c.print.ensures
    c.in-Ok-Some.status (c.in-Ok-Some.is ∙ ap Ok c.in-Ok-Some.field-0-is)

pub returns-in-Err : goal.returns-in-Err
returns-in-Err g c =
    plays-unprinted g.W.Wire.has_brought g.W.Wire.was_given g.W.Address.PartialEq.eq c.args.client.now.peers.items c.args.members c.args.client.now.asked c.args.client.now.floor c.args.script.now.commands c.args.wire.now c.loop-command.wire c.loop-command.client.asked c.loop-command.client.floor c.loop-command.script.commands
    (g.O.Write.contents c.args.output.now) (g.O.Write.contents c.loop-command.output) c.loop-command.invariant.both
    c.tell.new.wire (command_term c.in-Some.command) c.next_command.new.self.commands c.loop-command.client.peers.items c.tell.new.self.floor c.tell.result
    (both-of g.W.Wire.has_brought g.W.Wire.was_given c.loop-command.wire c.tell.new.wire
    (λ came. IfOk c.tell.result (λ (t : Told). IsToldAs g.W.Address.PartialEq.eq c.loop-command.client.peers.items came c.args.members (form_of (command_term c.in-Some.command)) (id_of (question_after c.loop-command.client.asked) (command_term c.in-Some.command)) c.loop-command.client.floor c.tell.new.self.floor t))
    (AreTriedFor c.loop-command.client.peers.items c.loop-command.client.asked c.loop-command.client.floor (command_term c.in-Some.command) c.tell.result) c.tell.ensures.told c.tell.ensures.sent)
    (ap (λ (s : ScriptTerm). s.commands) c.in-Some.ensures.taken) c.loop-command.invariant.peers c.in-Ok.told c.in-Ok.is (g.O.Write.contents c.print.new.output) c.print.result c.print.ensures
    c.in-Err.stop c.in-Err.is

pub returns : goal.returns
returns g c =
    plays-to-end g.W.Wire.has_brought g.W.Wire.was_given g.W.Address.PartialEq.eq c.args.client.now.peers.items c.args.members c.args.client.now.asked c.args.client.now.floor c.args.script.now.commands c.args.wire.now c.loop-command.wire c.loop-command.client.asked c.loop-command.client.floor c.loop-command.script.commands
    (g.O.Write.contents c.args.output.now) (g.O.Write.contents c.loop-command.output) c.loop-command.invariant.both
    c.in_default.ensures.taken.0
