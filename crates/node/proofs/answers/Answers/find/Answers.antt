use Rattle.std.proofs.Common.{subst}
use Rattle.paxos.specs.Lists.{Has}
use Rattle.node.proofs.Answered.{has_index}
use Rattle.node.proofs.answers.Answers.find.Goals as goal

pub returns-then-is_of-clause-kept : goal.returns-then-is_of-clause-kept
returns-then-is_of-clause-kept c =
    subst (λ xs. Has xs c.kept-item.result) c.deref-kept-items.ensures.value (has_index c.deref-kept-items.result.now c.loop-kept.kept-index c.kept-item.result c.loop-kept-test.true c.kept-item.is)
