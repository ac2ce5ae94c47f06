use Rattle.std.proofs.Common.{◌≡◌, ◌-◌, map, drop, length}
use Rattle.static_checks.specs.Categories.{judged}
use Rattle.static_checks.specs.Inside.{children, nothing, walk}
use Rattle.static_checks.proofs.Passes.{height}
use Rattle.static_checks.proofs.judging.+judged.Given as goal

abbrev pub decreases-judged : goal.decreases-judged
decreases-judged l = height l.x.now

abbrev pub invariant-loop-y : goal.invariant-loop-y
invariant-loop-y l = walk l.inner.from l.inner.to l.index (map judged (drop l.index (children l.fn.x))) l.found ≡ walk l.inner.from l.inner.to 0 (map judged (children l.fn.x)) nothing

abbrev pub decreases-loop-y : goal.decreases-loop-y
decreases-loop-y l = length (children l.x) - l.index
