use Rattle.std.proofs.Common.{◌≡◌, drop}
use Rattle.static_checks.specs.Parts.{variables_of}
use Rattle.static_checks.specs.Scopes.{with_names}
use Rattle.static_checks.proofs.variables.bind_all.Given as goal

abbrev pub invariant-loop-binding : goal.invariant-loop-binding
invariant-loop-binding l = with_names (variables_of (drop l.binding-index l.bindings)) l.bound ≡ with_names (variables_of l.fn.bindings) l.fn.bound
