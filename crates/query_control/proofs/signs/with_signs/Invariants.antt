use Rattle.std.proofs.Common.{◌≡◌, length, reverse}
use Rattle.query_meaning.specs.Operators.{with_sign}
use Rattle.query_meaning.specs.Running.{Run, each}
use Rattle.query_control.proofs.signs.with_signs.Given as goal

abbrev pub invariant-loop-sign : goal.invariant-loop-sign
invariant-loop-sign l = (run : Run) → each with_sign 0 (reverse l.rest) l.value run ≡ each with_sign 0 (reverse l.fn.signs) l.fn.operand run

abbrev pub decreases-loop-sign : goal.decreases-loop-sign
decreases-loop-sign l = length l.rest
