use Rattle.std.proofs.Common.{◌≡◌, ◌+◌, ◌++◌, drop}
use Rattle.world.specs.Posts.{all_deliveries}
use Rattle.world.proofs.mail.Mail.plan.Given as goal

-- the deliveries of what was looked at, before those of what is left
abbrev pub invariant-loop-index : goal.invariant-loop-index
invariant-loop-index l = (l.self.messages ≡ l.fn.self.messages) × (l.self.deliveries ≡ l.fn.self.deliveries)
    × (l.plan.items ++ all_deliveries l.members l.sender (l.first + l.index) (drop l.index l.sent) ≡ all_deliveries l.members l.sender l.first l.sent)
