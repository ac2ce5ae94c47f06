use Rattle.std.proofs.Common.{◌≡◌, ◌-◌}
use Rattle.static_checks.specs.Inside.{between, children, found_in}
use Rattle.static_checks.proofs.Codes.{found_after}
use Rattle.static_checks.proofs.judging.found_between.Given as goal

abbrev pub invariant-loop-index : goal.invariant-loop-index
invariant-loop-index l = found_after l.found (between l.index l.fn.to (children l.fn.x)) ≡ found_in (between l.fn.from l.fn.to (children l.fn.x))

abbrev pub decreases-loop-index : goal.decreases-loop-index
decreases-loop-index l = l.to - l.index
