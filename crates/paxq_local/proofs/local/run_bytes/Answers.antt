use Rattle.std.proofs.Common.{◌≡◌, ◌∙◌, [], ap, sym, rules}
use Rattle.std.specs.Str.{IsUtf8}
use Rattle.paxq_files.specs.Script.{script_of, wrong}
use Rattle.program_reports.proofs.Reported.{ok-gives}
use Rattle.paxq_local.specs.Playing.{LocalRun, Played, is_no_script, is_no_text, is_played, lacked_memory}
use Rattle.paxq_local.proofs.Giving.{nothing-none}
use Rattle.paxq_local.proofs.Runs.{came-as, came-no-memory, came-unreadable, came-wrong-line}
use Rattle.paxq_local.proofs.local.run_bytes.Goals as goal

pub returns-in_default : goal.returns-in_default
returns-in_default g c =
    let not : ¬ (IsUtf8 c.args.bytes.now) = search rules in
    ok-gives c.cannot_read.result c.cannot_read.ensures
    (λ status h. (
      [],
      came-unreadable g.W.Wire.has_brought g.W.Wire.was_given c.args.wire.now c.args.wire.now (λ ds k. k) (nothing-none g.W.Wire.was_given c.args.wire.now) (LocalRun g.W.Address.PartialEq.eq [] c.args.members c.args.file.now c.args.bytes.now)
          (g.O.Write.contents c.args.output.now) (g.E.Write.contents c.args.errors.now) (g.E.Write.contents c.cannot_read.new.errors) status c.args.file.now (h (g.O.Write.contents c.args.output.now)) (is_no_text not) lacked_memory,
    ))

pub returns-in-Ok-read_script : goal.returns-in-Ok-read_script
returns-in-Ok-read_script g c =
    let same : c.in-Ok.text.now ≡ c.args.bytes.now = search rules in
    let utf8 : IsUtf8 c.args.bytes.now = search rules in
    ok-gives c.run_commands.result c.run_commands.ensures
    (λ status h. (
      h.0,
      came-as g.W.Wire.has_brought g.W.Wire.was_given c.args.wire.now c.run_commands.new.wire (Played g.W.Address.PartialEq.eq h.0 c.args.members 0 0 c.in-Ok-read_script.script.commands) (LocalRun g.W.Address.PartialEq.eq h.0 c.args.members c.args.file.now c.args.bytes.now)
          (g.O.Write.contents c.args.output.now) (g.O.Write.contents c.run_commands.new.output) (g.E.Write.contents c.args.errors.now) (g.E.Write.contents c.run_commands.new.errors) status h.1
          (λ xs us run p. is_played c.in-Ok-read_script.script xs us run utf8 (ap script_of (sym same) ∙ c.in-Ok-read_script.ensures.read) p),
    ))

pub returns-in-Err-Line : goal.returns-in-Err-Line
returns-in-Err-Line g c =
    let same : c.in-Ok.text.now ≡ c.args.bytes.now = search rules in
    let utf8 : IsUtf8 c.args.bytes.now = search rules in
    let read : script_of c.in-Ok.text.now ≡ wrong c.in-Err-Line.number = rw c.in-Err-Line.field-0-is at c.in-Err-Line.ensures.wrong in
    ok-gives c.wrong_line.result c.wrong_line.ensures
    (λ status h. (
      [],
      came-wrong-line g.W.Wire.has_brought g.W.Wire.was_given c.args.wire.now c.args.wire.now (λ ds k. k) (nothing-none g.W.Wire.was_given c.args.wire.now) (LocalRun g.W.Address.PartialEq.eq [] c.args.members c.args.file.now c.args.bytes.now)
          (g.O.Write.contents c.args.output.now) (g.E.Write.contents c.args.errors.now) (g.E.Write.contents c.wrong_line.new.errors) status c.in-Err-Line.number h (is_no_script c.in-Err-Line.number utf8 (ap script_of (sym same) ∙ read)) lacked_memory,
    ))

pub returns-in-Err-Memory : goal.returns-in-Err-Memory
returns-in-Err-Memory g c =
    ok-gives c.no_memory.result c.no_memory.ensures
    (λ status h. (
      [],
      came-no-memory g.W.Wire.has_brought g.W.Wire.was_given c.args.wire.now c.args.wire.now (λ ds k. k) (nothing-none g.W.Wire.was_given c.args.wire.now) (LocalRun g.W.Address.PartialEq.eq [] c.args.members c.args.file.now c.args.bytes.now)
          (g.O.Write.contents c.args.output.now) (g.E.Write.contents c.args.errors.now) (g.E.Write.contents c.no_memory.new.errors) status h lacked_memory,
    ))
