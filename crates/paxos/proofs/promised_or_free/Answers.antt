use Rattle.std.proofs.Common.{take}
use Rattle.paxos.proofs.Runs.{run_p2c}
use Rattle.paxos.proofs.promised_or_free.Goals as goal

pub returns : goal.returns
returns c = λ app members events k. run_p2c app members (take k events)
