use Rattle.std.proofs.Common.{◌≡◌, ◌-◌, drop, length}
use Rattle.static_checks.specs.Categories.{judged}
use Rattle.static_checks.specs.Inside.{children}
use Rattle.static_checks.proofs.Passes.{height}
use Rattle.static_checks.proofs.Results.{joined_with}
use Rattle.static_checks.proofs.judging.+category.Given as goal

abbrev pub decreases-category : goal.decreases-category
decreases-category l = height l.x.now

abbrev pub invariant-loop-y : goal.invariant-loop-y
invariant-loop-y l = joined_with l.simple (drop l.index (children l.fn.x)) ≡ (judged l.fn.x).category

abbrev pub decreases-loop-y : goal.decreases-loop-y
decreases-loop-y l = length (children l.x) - l.index
