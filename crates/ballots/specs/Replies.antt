-- What clients get.
use Rattle.std.specs.Prelude.{ℕ, List, string_bytes}
use Rattle.fault_codes.specs.declared.code.Code.{Code}
use Rattle.ballots.specs.declared.reply.Answer.{Answer}
use Rattle.ballots.specs.declared.reply.Answer.TheVariants.{Text, Fault}

-- what a question gives: the bytes of a text, or a fault
pub data Answered : Type 0 where
  text : List ℕ → Answered
  fault : Code → Answered

-- what an answer of the code says
abbrev pub answered : Answer → Answered
answered (Text t) = text (string_bytes t)
answered (Fault code) = fault code
