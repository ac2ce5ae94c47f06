use Rattle.std.proofs.Common.{◌≡◌, ◌-◌, ℕ, subst, arith}
use Rattle.learner.specs.Polls.{IsCounted}
use Rattle.learner.proofs.tallies.Tallies.forget_room.Goals as goal
use Rattle.learner.proofs.tallies.Tallies.forget_room.Goals.{then-forget_room_at, else-forget_room_at}

none_less : (n : ℕ) → n - 0 ≡ n
none_less n = omega arith

pub invariant_of-self : goal.invariant_of-self
invariant_of-self c =
    let k : IsCounted c.if-forget_room_at.self-inside.votes c.if-forget_room_at.self-inside.heard c.if-forget_room_at.self-inside.polls.entries =
    elim c.if-forget_room_at.branch [
      | then-forget_room_at w ↦ rw w.self-inside-is (rw w.if-forget_room_at.true at (c.forget_room_at.ensures.counted c.self.inside.votes c.self.inside.heard c.self.invariant))
      | else-forget_room_at w ↦ rw w.self-inside-is (subst (λ n. IsCounted n c.self.inside.heard c.forget_room_at.new.polls.entries) (none_less c.self.inside.votes) (rw w.if-forget_room_at.false at (c.forget_room_at.ensures.counted c.self.inside.votes c.self.inside.heard c.self.invariant)))
    ] in
    c.drop_empty.ensures.counted _ _ k
