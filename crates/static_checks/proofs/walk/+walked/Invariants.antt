use Rattle.std.proofs.Common.{◌-◌, length}
use Rattle.static_checks.specs.Inside.{children}
use Rattle.static_checks.proofs.Passes.{height}
use Rattle.static_checks.proofs.Whole.{Left}
use Rattle.static_checks.proofs.walk.+walked.Given as goal

abbrev pub decreases-walked : goal.decreases-walked
decreases-walked l = height l.x.now

abbrev pub invariant-loop-y : goal.invariant-loop-y
invariant-loop-y l = Left l.fn.x l.fn.bound l.bound l.inner.from l.inner.to l.index l.found

abbrev pub decreases-loop-y : goal.decreases-loop-y
decreases-loop-y l = length (children l.x) - l.index
