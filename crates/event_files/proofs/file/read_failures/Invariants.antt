use Rattle.std.proofs.Common.{◌≡◌, ◌+◌, ◌^◌, ◌<◌, [], length, All}
use Rattle.event_files.specs.EventFiles.{failures_from, lines_of}
use Rattle.event_files.specs.declared.first.Group.{Group}
use Rattle.event_files.specs.Within.{IsFailureOf}
use Rattle.event_files.proofs.file.read_failures.Given as goal

abbrev pub invariant-loop-line : goal.invariant-loop-line
invariant-loop-line l =
    record {
      read : (group : Group) → group.members ≡ l.members → failures_from group l.failures.items l.number (lines_of l.rest) ≡ failures_from group [] 2 (lines_of l.bytes);
      within : All (IsFailureOf l.members) l.failures.items;
      room : l.number + length l.rest < 2 ^ 64;
    }

abbrev pub decreases-loop-line : goal.decreases-loop-line
decreases-loop-line l = length l.rest
