use Rattle.std.proofs.Common.{arith}
use Rattle.messages.proofs.Readings.{text_read-gives, text_read-fails}
use Rattle.messages.proofs.fields.split_text.Goals as goal

pub returns-in-Ok-clause-value : goal.returns-in-Ok-clause-value
returns-in-Ok-clause-value c = rw c.in-Ok.ensures.cases.0 (text_read-gives _ _ _ _ _ _ c.in_ok-length.ensures.value (grind arith) (rw c.from-length.ensures at c.in_ok-text.ensures.value) c.in-Ok.ensures.cases.1)

pub returns-in-Err-clause-fault : goal.returns-in-Err-clause-fault
returns-in-Err-clause-fault c = text_read-fails _ _ _ _ _ _ c.in_ok-length.ensures.value (grind arith) (rw c.from-length.ensures at c.in_ok-text.ensures.value) c.in-Err.ensures.cases.0
