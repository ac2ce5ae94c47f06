use Rattle.std.proofs.Common.{◌≡◌, ◌||◌, filter_map, map, length}
use Rattle.std.specs.List.{list_any}
use Rattle.pending.specs.Compatible.{has_two, is_among}
use Rattle.pending.specs.Inside.{target_by}
use Rattle.pending.specs.Primitives.{primitive_term}
use Rattle.pending.proofs.targets.has_two.Given as goal

-- of the targets that are left one is among those that were kept, or they repeat, just where the whole has a repeat
abbrev pub invariant-loop-primitive : goal.invariant-loop-primitive
invariant-loop-primitive l =
    (list_any (is_among l.targets) (filter_map (target_by l.once) (map primitive_term l.rest)) || has_two (target_by l.once) (map primitive_term l.rest))
    ≡ has_two (target_by l.once) (map primitive_term l.primitives)

abbrev pub decreases-loop-primitive : goal.decreases-loop-primitive
decreases-loop-primitive l = length l.rest
