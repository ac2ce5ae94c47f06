use Rattle.std.proofs.Common.{◌≡◌, ◌-◌, drop, length}
use Rattle.std.specs.List.{list_any}
use Rattle.query_grammar.specs.declared.ast.Expr.{out-Expr}
use Rattle.static_checks.specs.Inside.{children}
use Rattle.static_checks.specs.Parts.{Scope, parts}
use Rattle.static_checks.specs.Scopes.{AreBound, bound_before, with_names}
use Rattle.static_checks.specs.Variables.{has_unbound}
use Rattle.static_checks.proofs.Bindings.{part_unbound}
use Rattle.static_checks.proofs.Passes.{height}
use Rattle.static_checks.proofs.variables.+has_unbound_under.Given as goal

abbrev pub decreases-has_unbound_under : goal.decreases-has_unbound_under
decreases-has_unbound_under l = height l.x.now

abbrev pub invariant-loop-y : goal.invariant-loop-y
invariant-loop-y l = record {
  names : l.bound ≡ with_names (bound_before (out-Expr l.fn.x) l.index) l.fn.bound;
  left : (scope : Scope) → AreBound l.fn.bound scope → list_any (part_unbound scope) (drop l.index (parts (out-Expr l.fn.x))) ≡ has_unbound l.fn.x scope;
}

abbrev pub decreases-loop-y : goal.decreases-loop-y
decreases-loop-y l = length (children l.x) - l.index
