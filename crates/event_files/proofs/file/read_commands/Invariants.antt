use Rattle.std.proofs.Common.{◌≡◌, ◌+◌, ◌^◌, ◌<◌, List, [], length, All}
use Rattle.event_files.specs.EventFiles.{commands_from, lines_of}
use Rattle.event_files.specs.declared.first.Failure.{Failure}
use Rattle.event_files.specs.declared.first.Group.{Group}
use Rattle.event_files.specs.Within.{IsCommandOf}
use Rattle.event_files.proofs.file.read_commands.Given as goal

abbrev pub invariant-loop-line : goal.invariant-loop-line
invariant-loop-line l =
    record {
      read : (group : Group) (failures : List Failure) → group.members ≡ l.members
          → commands_from group failures l.commands.items l.number (lines_of l.rest) ≡ commands_from group failures [] l.fn.number (lines_of l.bytes);
      within : All (IsCommandOf l.members) l.commands.items;
      room : l.number + length l.rest < 2 ^ 64;
    }

abbrev pub decreases-loop-line : goal.decreases-loop-line
decreases-loop-line l = length l.rest
