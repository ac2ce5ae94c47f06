use Rattle.std.proofs.Common.{◌≡◌, take}
use Rattle.std.specs.List.{All}
use Rattle.ballots.specs.declared.value.Pair.{Pair}
use Rattle.position_map.specs.Slots.{filled, HasSlot}
use Rattle.learner.specs.Changes.{not_learnt, positions_in}
use Rattle.learner.specs.Slots.{pairs_of}
use Rattle.learner.proofs.learner.draft_pairs.Given as goal

abbrev pub invariant-loop-pair : goal.invariant-loop-pair
invariant-loop-pair l = record {
  same : filled l.chosen ≡ filled l.initial.chosen;
  pairs : l.learnt.items ≡ not_learnt (pairs_of (filled l.initial.chosen)) (take l.pair-index l.pairs);
  news : l.news.items ≡ positions_in (not_learnt (pairs_of (filled l.initial.chosen)) (take l.pair-index l.pairs));
  room : All (λ (e : Pair). HasSlot e.position l.chosen) (not_learnt (pairs_of (filled l.initial.chosen)) (take l.pair-index l.pairs));
}
