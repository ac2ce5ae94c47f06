use Rattle.std.proofs.Common.{◌≡◌, ℕ, take}
use Rattle.paxos.specs.Knowledge.{numbered, value_at}
use Rattle.position_map.specs.Slots.{filled, value_at as value_in}
use Rattle.learner.proofs.learner.placed.Given as goal

abbrev pub invariant-loop-value : goal.invariant-loop-value
invariant-loop-value l = record {
  position : l.position ≡ l.value-index;
  placed : (q : ℕ) → value_in q (filled l.chosen) ≡ value_at q (numbered 1 (take l.value-index l.values));
}
