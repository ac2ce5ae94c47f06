use Rattle.paxos.proofs.Four.{four_told, four_sent, four_applied}
use Rattle.paxos.proofs.straight_run_of_four.Goals as goal

pub returns-clause-messages : goal.returns-clause-messages
returns-clause-messages c = four_sent

pub returns-clause-told : goal.returns-clause-told
returns-clause-told c = four_told

pub returns-clause-applied : goal.returns-clause-applied
returns-clause-applied c = four_applied
