use Rattle.std.proofs.Common.{◌≡◌, drop}
use Rattle.std.specs.List.{list_any}
use Rattle.static_checks.specs.Variables.{binds_twice}
use Rattle.static_checks.proofs.variables.any_binds_twice.Given as goal

abbrev pub invariant-loop-clause : goal.invariant-loop-clause
invariant-loop-clause l = list_any binds_twice (drop l.clause-index l.fn.clauses) ≡ list_any binds_twice l.fn.clauses
