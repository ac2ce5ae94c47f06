use Rattle.std.proofs.Common.{◌≡◌, ◌+◌, ◌^◌, ◌<◌, [], length, map}
use denote.Text.{Utf8}
use denote.Shadow.{shadow}
use Rattle.paxq_files.specs.Commands.{command_term}
use Rattle.paxq_files.specs.Lines.{lines_after}
use Rattle.paxq_files.specs.Script.{commands_from}
use Rattle.paxq_files.proofs.script.read_commands.Given as goal

abbrev pub invariant-loop-line : goal.invariant-loop-line
invariant-loop-line l =
    record {
      is_text : shadow (Utf8 l.rest);
      read : commands_from l.fn.names (map command_term l.commands.items) (lines_after l.number l.rest) ≡ commands_from l.fn.names [] (lines_after l.before l.text);
      room : l.number + length l.rest < 2 ^ 64;
    }

abbrev pub decreases-loop-line : goal.decreases-loop-line
decreases-loop-line l = length l.rest
