use Rattle.std.proofs.Common.{◌≡◌, ◌-◌, drop, length}
use Rattle.std.specs.List.{list_any}
use Rattle.static_checks.specs.Variables.{binds_a_name_twice}
use Rattle.static_checks.specs.Inside.{children}
use Rattle.static_checks.proofs.Passes.{height}
use Rattle.static_checks.proofs.variables.+binds_a_name_twice.Given as goal

abbrev pub decreases-binds_a_name_twice : goal.decreases-binds_a_name_twice
decreases-binds_a_name_twice l = height l.x.now

abbrev pub invariant-loop-y : goal.invariant-loop-y
invariant-loop-y l = list_any binds_a_name_twice (drop l.index (children l.fn.x)) ≡ binds_a_name_twice l.fn.x

abbrev pub decreases-loop-y : goal.decreases-loop-y
decreases-loop-y l = length (children l.x) - l.index
