use Rattle.std.proofs.Common.{refl, arith}
use Rattle.messages.proofs.Readings.{no_code}
use Rattle.messages.proofs.fields.split_outcome.Goals as goal

pub returns-in-None-clause-fault : goal.returns-in-None-clause-fault
returns-in-None-clause-fault c = no_code _ _ _ c.in_ok-number.ensures.value (grind arith) (c.in-None.ensures.none refl)
