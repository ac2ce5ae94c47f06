use Rattle.std.proofs.Common.{◌≡◌, length}
use Rattle.position_map.specs.Slots.{filled}
use Rattle.position_map.specs.Ends.{shown, IsKept}
use Rattle.position_map.proofs.map.PositionMap.forget_rooms.Given as goal

abbrev pub invariant-loop-room : goal.invariant-loop-room
invariant-loop-room g l = record {
  kept : IsKept l.self-inside.rooms.items l.self-inside.slots.entries;
  same : filled (shown l.self-inside.slots.entries) ≡ filled l.fn.self;
}

abbrev pub decreases-loop-room : goal.decreases-loop-room
decreases-loop-room g l = length l.self-inside.rooms.items
