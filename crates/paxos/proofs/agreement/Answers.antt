use Rattle.std.proofs.Common.{take}
use Rattle.paxos.proofs.Runs.{run_agrees, each_run_agrees}
use Rattle.paxos.proofs.agreement.Goals as goal

pub returns-clause-after_each_beginning : goal.returns-clause-after_each_beginning
returns-clause-after_each_beginning c = λ app members events k. run_agrees app members (take k events)

pub returns-clause-after_each_run : goal.returns-clause-after_each_run
returns-clause-after_each_run c = each_run_agrees
