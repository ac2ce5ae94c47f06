use Rattle.paxos.proofs.WellFormed.{run_is_well_formed}
use Rattle.paxos.proofs.runs_are_well_formed.Goals as goal

pub returns : goal.returns
returns c = run_is_well_formed
