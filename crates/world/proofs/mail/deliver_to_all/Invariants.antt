use Rattle.std.proofs.Common.{◌≡◌, ◌++◌}
use Rattle.member.specs.declared.outcome.Target.TheVariants.{All}
use Rattle.world.specs.Posts.{deliveries}
use Rattle.world.proofs.mail.deliver_to_all.Given as goal

-- all targets before have their deliveries
abbrev pub invariant-loop-before : goal.invariant-loop-before
invariant-loop-before l = l.plan.items ≡ l.fn.plan.items ++ deliveries l.before 0 l.fn.message All
