use Rattle.paxos.proofs.Straight.{keep_applied, keep_sent, keep_told, start_applied, cut_kept_applied, cut_lost_applied}
use Rattle.paxos.proofs.kept_over_a_stop.Goals as goal

pub returns-clause-applied : goal.returns-clause-applied
returns-clause-applied c = keep_applied

pub returns-clause-messages : goal.returns-clause-messages
returns-clause-messages c = keep_sent

pub returns-clause-told : goal.returns-clause-told
returns-clause-told c = keep_told

pub returns-clause-not_kept : goal.returns-clause-not_kept
returns-clause-not_kept c = start_applied

pub returns-clause-stop_kept : goal.returns-clause-stop_kept
returns-clause-stop_kept c = cut_kept_applied

pub returns-clause-stop_lost : goal.returns-clause-stop_lost
returns-clause-stop_lost c = cut_lost_applied
