use Rattle.std.proofs.Common.{List, ℕ, ap, subst, string_bytes}
use Rattle.std.specs.Io.KnownBytes.{Appends}
use Rattle.paxq_files.specs.Script.{Command, ScriptTerm}
use Rattle.paxq_files.specs.Commands.{command_term}
use Rattle.paxq_run.proofs.Plays.{Going, Going-cut, Going-end, Going-stops, Going-turn}
use Rattle.paxq_run.proofs.run.play.Goals as goal

pub loop-command-preserved : goal.loop-command-preserved
loop-command-preserved g c = λ values m.
    (let P : List Command → Type 0 = Going g.J.Opening.names values c.loop-command.site c.loop-command.reader.sight (g.W.Write.contents c.args.output.now) (g.W.Write.contents c.loop-command.output) c.args.script.now.commands in
    let going = subst P (ap (λ (s : ScriptTerm). s.commands) c.in-Some.ensures.taken) (c.loop-command.invariant values m) in
    Going-turn g.J.Opening.names values c.loop-command.site c.loop-command.reader.sight (g.W.Write.contents c.args.output.now) (g.W.Write.contents c.loop-command.output) c.args.script.now.commands (command_term c.in-Some.command) c.next_command.new.self.commands going
    (string_bytes c.in-Ok.turn.text) c.in-Ok.turn.goes_on c.take_turn.new.site c.take_turn.new.reader.sight (g.W.Write.contents c.write_all.new.self) (λ vs shows. c.in-Ok.ensures vs shows)
    (let Q : List ℕ → Type 0 = Appends (g.W.Write.contents c.loop-command.output) (g.W.Write.contents c.write_all.new.self) in subst Q c.as_bytes.ensures.value c.in_default-write_all.ensures.bytes) c.if-not-turn.false)

pub returns-in-Err-clause-cut : goal.returns-in-Err-clause-cut
returns-in-Err-clause-cut g c = λ values m.
    Going-cut g.J.Opening.names values c.loop-command.site c.loop-command.reader.sight (g.W.Write.contents c.args.output.now) (g.W.Write.contents c.loop-command.output) c.args.script.now.commands c.loop-command.script.commands (c.loop-command.invariant values m)

pub returns-then-not-turn-clause-played : goal.returns-then-not-turn-clause-played
returns-then-not-turn-clause-played g c = λ values m.
    (let P : List Command → Type 0 = Going g.J.Opening.names values c.loop-command.site c.loop-command.reader.sight (g.W.Write.contents c.args.output.now) (g.W.Write.contents c.loop-command.output) c.args.script.now.commands in
    let going = subst P (ap (λ (s : ScriptTerm). s.commands) c.in-Some.ensures.taken) (c.loop-command.invariant values m) in
    Going-stops g.J.Opening.names values c.loop-command.site c.loop-command.reader.sight (g.W.Write.contents c.args.output.now) (g.W.Write.contents c.loop-command.output) c.args.script.now.commands (command_term c.in-Some.command) c.next_command.new.self.commands going
    (string_bytes c.in-Ok.turn.text) c.in-Ok.turn.goes_on c.take_turn.new.site c.take_turn.new.reader.sight (g.W.Write.contents c.write_all.new.self) (λ vs shows. c.in-Ok.ensures vs shows)
    (let Q : List ℕ → Type 0 = Appends (g.W.Write.contents c.loop-command.output) (g.W.Write.contents c.write_all.new.self) in subst Q c.as_bytes.ensures.value c.in_default-write_all.ensures.bytes) c.if-not-turn.true)

pub returns-clause-played : goal.returns-clause-played
returns-clause-played g c = λ values m.
    (let P : List Command → Type 0 = Going g.J.Opening.names values c.loop-command.site c.loop-command.reader.sight (g.W.Write.contents c.args.output.now) (g.W.Write.contents c.loop-command.output) c.args.script.now.commands in
    Going-end g.J.Opening.names values c.loop-command.site c.loop-command.reader.sight (g.W.Write.contents c.args.output.now) (g.W.Write.contents c.loop-command.output) c.args.script.now.commands (subst P c.in_default.ensures.taken.0 (c.loop-command.invariant values m)))
