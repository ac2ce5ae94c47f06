use Rattle.std.proofs.Common.{◌≡◌, ◌+◌, ◌≤◌, length}
use denote.Text.{Utf8}
use denote.Shadow.{shadow}
use Rattle.paxq_files.specs.Lines.{lines_after}
use Rattle.paxq_files.proofs.lines.first_line.Given as goal

abbrev pub invariant-loop-rest : goal.invariant-loop-rest
invariant-loop-rest l =
    record {
      is_text : shadow (Utf8 l.rest);
      left : lines_after l.number l.rest ≡ lines_after l.before l.text;
      room : l.number + length l.rest ≤ l.before + length l.text;
      shorter : length l.rest ≤ length l.text;
    }

abbrev pub decreases-loop-rest : goal.decreases-loop-rest
decreases-loop-rest l = length l.rest
