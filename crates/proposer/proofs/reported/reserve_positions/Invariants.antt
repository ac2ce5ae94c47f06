use Rattle.std.proofs.Common.{◌≡◌, drop}
use Rattle.position_map.specs.Slots.{filled}
use Rattle.ballots.specs.Values.{IsRising}
use Rattle.proposer.proofs.Merging.{Places}
use Rattle.proposer.proofs.reported.reserve_positions.Given as goal

abbrev pub invariant-loop-position : goal.invariant-loop-position
invariant-loop-position l = IsRising 1 (drop l.position-index l.learnt) × (filled l.map ≡ filled l.fn.map) × Places l.learnt (drop l.position-index l.learnt) l.map
