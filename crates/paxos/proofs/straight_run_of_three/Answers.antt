use Rattle.paxos.proofs.Straight.{straight_told, straight_sent, straight_applied}
use Rattle.paxos.proofs.straight_run_of_three.Goals as goal

pub returns-clause-messages : goal.returns-clause-messages
returns-clause-messages c = straight_sent

pub returns-clause-told : goal.returns-clause-told
returns-clause-told c = straight_told

pub returns-clause-applied : goal.returns-clause-applied
returns-clause-applied c = straight_applied
