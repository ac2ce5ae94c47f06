use Rattle.std.proofs.Common.{◌≡◌}
use Rattle.position_map.specs.Slots.{filled, Rise}
use Rattle.position_map.specs.Ends.{shown}
use Rattle.position_map.proofs.map.PositionMap.last.Given as goal

abbrev pub invariant-loop-last : goal.invariant-loop-last
invariant-loop-last g l = record {
  can : (goal.iterator-loop-last g).can_next l.last-iterator;
  finite : (goal.iterator-loop-last g).is_finite l.last-iterator;
  rise : Rise 0 (shown l.last-iterator.iter);
  same : filled l.self ≡ filled (shown l.last-iterator.iter);
}
