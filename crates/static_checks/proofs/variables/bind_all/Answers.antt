use Rattle.std.proofs.Common.{ap, ◌∙◌}
use Rattle.static_checks.specs.Scopes.{with_name}
use Rattle.static_checks.proofs.Unbound.{one_binding}
use Rattle.static_checks.proofs.variables.bind_all.Goals as goal

pub loop-binding-preserved : goal.loop-binding-preserved
loop-binding-preserved c =
    one_binding c.args.bindings.now c.loop-binding.binding-index c.binding-item.result c.loop-binding.bound c.add.new.self _ c.loop-binding-test.true c.binding-item.is
    (c.in_ok-add.ensures ∙ ap (λ v. with_name v c.loop-binding.bound) c.as_str.ensures) c.loop-binding.invariant
