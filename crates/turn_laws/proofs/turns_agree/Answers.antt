use Rattle.turn_laws.proofs.Lost.{turns_agree}
use Rattle.turn_laws.proofs.turns_agree.Goals as goal

pub returns : goal.returns
returns c = turns_agree
