use Rattle.std.proofs.Common.{◌≡◌, Option, Some, IsSome, refl}
use Rattle.ballots.specs.declared.value.Value.{Value}
use Rattle.paxos.proofs.Learnt.{learnt_heard, heard_learnt, prefix_ends}
use Rattle.paxos.proofs.News.{learnt_stays, prefix_learnt}
use Rattle.paxos.proofs.learning.Goals as goal

some_value : (o : Option Value) (value : Value) → o ≡ Some value → IsSome o
some_value o value e = rw e refl

pub returns-clause-has_a_reason : goal.returns-clause-has_a_reason
returns-clause-has_a_reason c = learnt_heard

pub returns-clause-is_learnt : goal.returns-clause-is_learnt
returns-clause-is_learnt c = heard_learnt

pub returns-clause-stays : goal.returns-clause-stays
returns-clause-stays c = learnt_stays

pub returns-clause-prefix_learnt : goal.returns-clause-prefix_learnt
returns-clause-prefix_learnt c = λ n heard p low high. let r = prefix_learnt n heard p low high in some_value _ r.0 r.1

pub returns-clause-prefix_longest : goal.returns-clause-prefix_longest
returns-clause-prefix_longest c = prefix_ends
