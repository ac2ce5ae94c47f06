use Rattle.std.proofs.Common.{◌≡◌, drop, map}
use Rattle.pending.specs.Primitives.{primitive_term}
use Rattle.update_meaning.specs.Changed.{chosen, rooted_at}
use Rattle.query_meaning.specs.Copies.{target_these}
use Rattle.query_copies.proofs.targets.are_in_copies.Given as goal

abbrev pub invariant-loop-primitive : goal.invariant-loop-primitive
invariant-loop-primitive l =
    target_these (chosen (rooted_at l.roots) l.shelf.own.trees) (map primitive_term (drop l.primitive-index l.primitives)) ≡ target_these (chosen (rooted_at l.roots) l.shelf.own.trees) (map primitive_term l.primitives)
