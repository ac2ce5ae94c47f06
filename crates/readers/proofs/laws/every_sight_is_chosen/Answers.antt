use Rattle.paxos.proofs.Runs.{each_run_agrees}
use Rattle.readers.proofs.Seen.{seen_chosen}
use Rattle.readers.proofs.laws.every_sight_is_chosen.Goals as goal

pub returns : goal.returns
returns c = λ app members events w run member u running store seen happened on sight has. seen_chosen w (each_run_agrees app members events w run) member u running store seen happened on sight has
