use Rattle.std.proofs.Common.{◌≡◌, ◌-◌, drop, length}
use Rattle.std.specs.List.{list_any}
use Rattle.static_checks.specs.Functions.{has_unknown_call}
use Rattle.static_checks.specs.Inside.{children}
use Rattle.static_checks.proofs.Passes.{height}
use Rattle.static_checks.proofs.functions.+has_unknown_call.Given as goal

abbrev pub decreases-has_unknown_call : goal.decreases-has_unknown_call
decreases-has_unknown_call l = height l.x.now

abbrev pub invariant-loop-y : goal.invariant-loop-y
invariant-loop-y l = list_any has_unknown_call (drop l.index (children l.fn.x)) ≡ has_unknown_call l.fn.x

abbrev pub decreases-loop-y : goal.decreases-loop-y
decreases-loop-y l = length (children l.x) - l.index
