use Rattle.std.proofs.Common.{◌≡◌, ◌-◌, map, drop, length}
use Rattle.static_checks.specs.Categories.{first_fault, judged}
use Rattle.static_checks.specs.Inside.{children}
use Rattle.static_checks.proofs.Passes.{height}
use Rattle.static_checks.proofs.judging.+category_fault.Given as goal

abbrev pub decreases-category_fault : goal.decreases-category_fault
decreases-category_fault l = height l.x.now

-- no part before has a fault
abbrev pub invariant-loop-y : goal.invariant-loop-y
invariant-loop-y l = first_fault (map judged (drop l.index (children l.fn.x))) ≡ first_fault (map judged (children l.fn.x))

abbrev pub decreases-loop-y : goal.decreases-loop-y
decreases-loop-y l = length (children l.x) - l.index
