use Rattle.std.proofs.Common.{◌≡◌, ℕ, take}
use Rattle.pending.specs.Compatible.{is_among}
use Rattle.query_copies.proofs.roots.set_of.Given as goal

abbrev pub invariant-loop-node : goal.invariant-loop-node
invariant-loop-node l = (i : ℕ) → is_among l.set.keys i ≡ is_among (take l.node-index l.list) i
