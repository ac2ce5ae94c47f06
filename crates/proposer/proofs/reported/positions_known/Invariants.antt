use Rattle.std.proofs.Common.{◌≡◌, ◌||◌, ℕ, is_some, drop}
use Rattle.position_map.specs.Slots.{filled, value_at}
use Rattle.ballots.specs.Values.{IsRising}
use Rattle.proposer.specs.Beginning.{is_in}
use Rattle.proposer.proofs.reported.positions_known.Given as goal

abbrev pub invariant-loop-position : goal.invariant-loop-position
invariant-loop-position l =
    IsRising 1 (drop l.position-index l.learnt) × ((q : ℕ) → (is_some (value_at q (filled l.map)) || is_in q (drop l.position-index l.learnt)) ≡ is_in q l.learnt)
