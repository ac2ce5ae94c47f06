use Rattle.position_map.specs.Slots.{filled}
use Rattle.position_map.specs.Ends.{shown}
use Rattle.position_map.proofs.Ahead.{IsAhead}
use Rattle.position_map.proofs.slot.first_from.Given as goal

abbrev pub invariant-loop-next : goal.invariant-loop-next
invariant-loop-next g l = record {
  can : (goal.iterator-loop-next g).can_next l.next-iterator;
  finite : (goal.iterator-loop-next g).is_finite l.next-iterator;
  ahead : IsAhead l.position (filled (shown l.slots.entries)) l.next-iterator;
}
