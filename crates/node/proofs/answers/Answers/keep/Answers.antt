use Rattle.std.proofs.Common.{◌≡◌, inl, inr, ⊎_elim}
use Rattle.node.proofs.Answered.{pushed_has}
use Rattle.paxos.specs.Lists.{Has}
use Rattle.node.proofs.answers.Answers.keep.Goals as goal

pub returns : goal.returns
returns c = λ k has. ⊎_elim (λ (h : Has c.make_room.new.self.kept.items k). inl (c.make_room.ensures k h)) (λ (e : k ≡ c.args.kept). inr e) (pushed_has _ c.make_room.new.self.kept.items c.push.new.self.items c.args.kept k c.push.ensures.items has)
