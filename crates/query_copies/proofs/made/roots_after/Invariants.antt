use Rattle.std.proofs.Common.{◌≡◌, map, take}
use Rattle.query_copies.specs.declared.made.MadeCopy.{MadeCopy}
use Rattle.query_copies.proofs.made.roots_after.Given as goal

abbrev pub invariant-loop-copy : goal.invariant-loop-copy
invariant-loop-copy l = l.roots.items ≡ map (λ (c : MadeCopy). c.root) (take l.copy-index l.copies)
